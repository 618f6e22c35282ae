use Rattle.std.proofs.Common.{ℕ, ◌/◌, ◌<◌, ◌≤◌, List, sym, ap, ◌∙◌, subst, arith}
use Rattle.route.specs.Ends.{end_number}
use Rattle.pile.specs.declared.records.Record.{Record}
use Rattle.pile.specs.Numbers.{waiting, Numbered, with_moved_up}
use Rattle.pile.proofs.Changes.{removed_within, removed_numbered}
use Rattle.pile.proofs.Loops.{written_over}
use Rattle.pile.proofs.Means.{means, counted, removed_means}
use Rattle.pile.proofs.store.Pile.close_gap.Goals as goal

pub invariant_of-self : goal.invariant_of-self
invariant_of-self c =
    let p = c.args.self.now in
    let v = p.records in
    let l = v.items in
    let e = end_number c.args.end in
    let k = c.args.position in
    let h : k < waiting e l = omega (arith, c.requires, counted p c.args.end) in
    let all = written_over v c.move_up.new.records c.deref_mut.result.now (with_moved_up e k) c.move_up.ensures c.deref_mut.ensures.value in
    let W : List Record → Type 0 = λ m. (d : ℕ) → waiting d m ≤ v.len / 2 in
    record {
      some = p.some;
      within = subst W (sym all) (removed_within e k (v.len / 2) l p.numbered h p.within);
      numbered = subst Numbered (sym all) (removed_numbered e k l p.numbered h);
    }

pub returns : goal.returns
returns c =
    let p = c.args.self.now in
    let v = p.records in
    let e = end_number c.args.end in
    let k = c.args.position in
    let h : k < waiting e v.items = omega (arith, c.requires, counted p c.args.end) in
    let all = written_over v c.move_up.new.records c.deref_mut.result.now (with_moved_up e k) c.move_up.ensures c.deref_mut.ensures.value in
    ap (λ (m : List Record). means m (v.len / 2)) all ∙ removed_means c.args.end k v.items (v.len / 2) p.numbered h
