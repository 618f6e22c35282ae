-- A pile whose records are all free has no message, and its numbers are right.
use Rattle.std.proofs.Common.{◌≡◌, ℕ, cond, List, [], map, ap, ◌∙◌, refl, arith}
use Rattle.std.specs.List.{range_with_len}
use Rattle.std.proofs.lemmas.Bool.Decides.{nat_tests}
use Rattle.pile.specs.declared.records.Record.{Record}
use Rattle.pile.specs.Numbers.{toward_end, waits, waiting, holders, Numbered, message_numbered, in_order, freed}
use Rattle.route.specs.Ways.{Messages, empty_ways}
use Rattle.pile.proofs.Means.{means}
use Rattle.pile.proofs.Sums.{sum_over, sum_none}

pub none_waiting : (e : ℕ) (l : List Record) → waiting e (map freed l) ≡ 0
none_waiting e l = sum_over freed (λ r. cond (toward_end e r.tag) 1 0) (λ _. 0) (λ r. refl) l ∙ sum_none (λ _. 0) (λ r. refl) l

pub new_numbered : (l : List Record) → Numbered (map freed l)
new_numbered l e k =
    let w = none_waiting e l in
    let o : holders e k (map freed l) ≡ 0 = sum_over freed (λ r. cond (waits e k r.tag) 1 0) (λ _. 0) (λ r. refl) l ∙ sum_none (λ _. 0) (λ r. refl) l in
    grind (arith, nat_tests)

pub new_order : (e : ℕ) (l : List Record) → in_order e (map freed l) ≡ []
new_order e l = ap (λ n. map (λ k. message_numbered e k (map freed l)) (range_with_len 0 n)) (none_waiting e l)

pub new_means : (l : List Record) (n : ℕ) → means (map freed l) n ≡ empty_ways n
new_means l n =
    ap (λ (q : Messages). record { zero = q; one = in_order 1 (map freed l); capacity = n }) (new_order 0 l)
    ∙ ap (λ (q : Messages). record { zero = []; one = q; capacity = n }) (new_order 1 l)
