-- Reading and the layout agree.
use Rattle.std.proofs.Common.{◌≡◌, ℕ, ◌↔◌, List, Ok, Result, sym, ◌∙◌}
use Rattle.message.specs.declared.fault.Fault.{Fault}
use Rattle.message.specs.Content.{Content}
use Rattle.reader.specs.Reading.{reading}
use Rattle.message.specs.Layout.{IsMessage}
use Rattle.reader.proofs.Sound.{sound}
use Rattle.reader.proofs.Complete.{complete}

pub agrees : (octets : List ℕ) (r : Result Content Fault) → r ≡ reading octets → (c : Content) → (r ≡ Ok c) ↔ IsMessage c octets
agrees octets r e c = (λ f. sound octets c (sym e ∙ f), λ m. e ∙ complete octets c m)
