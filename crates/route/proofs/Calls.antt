-- What each call does where it is accepted, and where a list is full or empty, in plain facts.
use Rattle.std.proofs.Common.{◌≡◌, ℕ, zero, suc, ◌<◌, ◌≤◌, Bool, true, false, cond, eqb, ◌≢◌, List, [], ◌∷◌, ◌++◌, length, get_or, drop, Ok, refl, ap, ◌∙◌, arith, lit<}
use Rattle.std.proofs.lemmas.Bool.{lt-leb, le-leb, le-ltb, ne_eqb, eq-eqb}
use Rattle.message.specs.declared.fault.Refusal.TheVariants.{NoMessage}
use Rattle.route.specs.declared.end.End.{End}
use Rattle.route.specs.declared.end.End.TheVariants.{Zero, One}
use Rattle.route.specs.Ends.{end_number}
use Rattle.route.specs.Queues.{queue, with_queue}
use Rattle.route.specs.Ways.{Ways, Sound, Messages, ways_of, toward, with_toward, message_sized, refused, fronted, oldest, without}
use Rattle.route.specs.Ways.{put_answer, put_after, take_answer, take_buffer, take_after, lose_answer, lose_after}

-- there are two ends
pub two_ends : (end : End) → end_number end < 2
two_ends Zero = lit< tt
two_ends One = lit< tt

-- the messages toward an end of a route given by its two lists
pub queue_of : (end : End) (f : ℕ → Messages) (n : ℕ) → queue end (ways_of f n) ≡ f (end_number end)
queue_of Zero f n = refl
queue_of One f n = refl

-- a route of which the messages toward an end are changed, and the others are not
pub changed_by : (end : End) (F : Messages → Messages) (f g : ℕ → Messages) (n : ℕ) → g (end_number end) ≡ F (f (end_number end)) →
    ((d : ℕ) → d < 2 → d ≢ end_number end → g d ≡ f d) → ways_of g n ≡ with_queue end F (ways_of f n)
changed_by Zero F f g n same others =
    ap (λ (l : Messages). record { zero = l; one = g 1; capacity = n }) same
    ∙ ap (λ (l : Messages). record { zero = F (f 0); one = l; capacity = n }) (others 1 (lit< tt) (λ z. omega arith))
changed_by One F f g n same others =
    ap (λ (l : Messages). record { zero = g 0; one = l; capacity = n }) same
    ∙ ap (λ (l : Messages). record { zero = l; one = F (f 1); capacity = n }) (others 0 (lit< tt) (λ z. omega arith))

-- the list toward an end after another one was put there, or toward the other end
pub toward_same : (e : ℕ) (l : Messages) (w : Ways) → toward e (with_toward e l w) ≡ l
toward_same e l w = elim (eqb e 0) as (λ t. cond t (cond t l w.zero) (cond t w.one l) ≡ l) [ true ↦ refl | false ↦ refl ]

pub toward_other : (e d : ℕ) (l : Messages) (w : Ways) → e < 2 → d < 2 → d ≢ e → toward e (with_toward d l w) ≡ toward e w
toward_other zero d l w g h n = let t : eqb d 0 ≡ false = ne_eqb d 0 n in simp t refl
toward_other (suc zero) d l w g h n = let t : eqb d 0 ≡ true = eq-eqb d 0 (omega (arith, n)) in simp t refl
toward_other (suc (suc e)) d l w g h n = absurd (omega arith)

-- a list put in its own place, and one put over another
pub with_same : (e : ℕ) (w : Ways) → with_toward e (toward e w) w ≡ w
with_same e w =
    elim (eqb e 0) as (λ t. ◌≡◌ {A = Ways} (record { zero = cond t (cond t w.zero w.one) w.zero; one = cond t w.one (cond t w.zero w.one); capacity = w.capacity }) w)
    [ true ↦ refl | false ↦ refl ]

pub with_with : (e : ℕ) (k l : Messages) (w : Ways) → with_toward e k (with_toward e l w) ≡ with_toward e k w
with_with e k l w =
    elim (eqb e 0) as (λ t. ◌≡◌ {A = Ways} (record { zero = cond t k (cond t l w.zero); one = cond t (cond t w.one l) k; capacity = w.capacity }) (record { zero = cond t k w.zero; one = cond t w.one k; capacity = w.capacity }))
    [ true ↦ refl | false ↦ refl ]

pub put_fits : (e : ℕ) (m : List ℕ) (w : Ways) → e < 2 → message_sized m ≡ true → length (toward e w) < w.capacity →
    (Ok tt ≡ put_answer e m w) × (with_toward e (toward e w ++ (m ∷ [])) w ≡ put_after e m w)
put_fits e m w h i k = let p = lt-leb 2 e h in let s = lt-leb w.capacity (length (toward e w)) k in simp (p, i, s) (refl, refl)

pub take_fits : (e : ℕ) (b : List ℕ) (w : Ways) → e < 2 → 268 ≤ length b → 0 < length (toward e w) →
    (Ok (length (oldest (toward e w))) ≡ take_answer e b w) × (fronted (oldest (toward e w)) b ≡ take_buffer e b w) × (with_toward e (drop 1 (toward e w)) w ≡ take_after e b w)
take_fits e b w h i k =
    let p = lt-leb 2 e h in let q = le-ltb (length b) 268 i in
    let s : eqb (length (toward e w)) 0 ≡ false = ne_eqb (length (toward e w)) 0 (λ z. omega arith) in
    simp (p, q, s) (refl, refl, refl)

pub take_none : (e : ℕ) (b : List ℕ) (w : Ways) → e < 2 → 268 ≤ length b → length (toward e w) ≡ 0 →
    (refused NoMessage ≡ take_answer e b w) × (b ≡ take_buffer e b w) × (w ≡ take_after e b w)
take_none e b w h i k =
    let p = lt-leb 2 e h in let q = le-ltb (length b) 268 i in let s = eq-eqb (length (toward e w)) 0 k in
    simp (p, q, s) (refl, refl, refl)

pub lose_fits : (e i : ℕ) (w : Ways) → e < 2 → i < length (toward e w) →
    (Ok tt ≡ lose_answer e i w) × (with_toward e (without i (toward e w)) w ≡ lose_after e i w)
lose_fits e i w h k = let p = lt-leb 2 e h in let s = lt-leb (length (toward e w)) i k in simp (p, s) (refl, refl)

pub lose_none : (e i : ℕ) (w : Ways) → e < 2 → length (toward e w) ≤ i →
    (refused NoMessage ≡ lose_answer e i w) × (w ≡ lose_after e i w)
lose_none e i w h k = let p = lt-leb 2 e h in let s = le-leb (length (toward e w)) i k in simp (p, s) (refl, refl)

-- a route given by two lists within its capacity, of messages of 1 to 268 octets
pub sound_of : (f : ℕ → Messages) (n : ℕ) → 0 < n → ((e : ℕ) → e < 2 → length (f e) ≤ n) →
    ((e k : ℕ) → e < 2 → k < length (f e) → (0 < length (get_or (f e) k [])) × (length (get_or (f e) k []) ≤ 268)) → Sound (ways_of f n)
sound_of f n some within sized = record {
  some = some;
  within = (λ e. both (eqb e 0) (λ l. length l ≤ n) (within 0 (lit< tt)) (within 1 (lit< tt)));
  low = (λ e. both (eqb e 0) (λ l. (k : ℕ) → k < length l → 0 < length (get_or l k [])) (λ k h. (sized 0 k (lit< tt) h).0) (λ k h. (sized 1 k (lit< tt) h).0));
  high = (λ e. both (eqb e 0) (λ l. (k : ℕ) → k < length l → length (get_or l k []) ≤ 268) (λ k h. (sized 0 k (lit< tt) h).1) (λ k h. (sized 1 k (lit< tt) h).1));
}
  where
    both : (b : Bool) (P : Messages → Type 0) → P (f 0) → P (f 1) → P (cond b (f 0) (f 1))
    both true P p q = p
    both false P p q = q
