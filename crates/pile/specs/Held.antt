-- What a pile means.
use Rattle.std.specs.Prelude.{◌/◌, vec_items, vec_len}
use Rattle.route.specs.Ways.{Ways, ways_of}
use Rattle.pile.specs.declared.store.Pile.{Pile}
use Rattle.pile.specs.Numbers.{in_order}

-- the route that a pile is: its messages by their queue numbers, and half of its records for each end
abbrev pub pile_ways : Pile → Ways
pile_ways p = ways_of (λ e. in_order e (vec_items p.records)) (vec_len p.records / 2)
