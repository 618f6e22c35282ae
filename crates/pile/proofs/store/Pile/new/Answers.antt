use Rattle.std.proofs.Common.{ℕ, ◌/◌, ◌≤◌, List, sym, ap, ◌∙◌, subst, arith}
use Rattle.pile.specs.declared.records.Record.{Record}
use Rattle.pile.specs.Numbers.{waiting, Numbered, freed}
use Rattle.pile.proofs.Freed.{none_waiting, new_numbered, new_means}
use Rattle.pile.proofs.Loops.{written_over}
use Rattle.pile.proofs.Means.{means}
use Rattle.pile.proofs.store.Pile.new.Goals as goal

pub invariant_of-result : goal.invariant_of-result
invariant_of-result c =
    let v = c.args.records in
    let l = v.items in
    let all = written_over v c.clear.new.records c.deref_mut.result.now freed c.clear.ensures c.deref_mut.ensures.value in
    let W : List Record → Type 0 = λ m. (e : ℕ) → waiting e m ≤ v.len / 2 in
    record {
      some = omega (arith, c.if-len-lt-FEWEST_RECORDS.false, c.len.ensures);
      within = subst W (sym all) (λ e. omega (arith, none_waiting e l));
      numbered = subst Numbered (sym all) (new_numbered l);
    }

pub returns-clause-empty : goal.returns-clause-empty
returns-clause-empty c =
    let v = c.args.records in
    let all = written_over v c.clear.new.records c.deref_mut.result.now freed c.clear.ensures c.deref_mut.ensures.value in
    ap (λ (m : List Record). means m (v.len / 2)) all ∙ new_means v.items (v.len / 2)
