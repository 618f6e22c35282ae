-- What is read as a message is laid out as that message.
use Rattle.std.proofs.Common.{◌≡◌, ℕ, ◌+◌, ◌*◌, ◌/◌, ◌%◌, ◌<◌, ◌≤◌, Bool, true, false, cond, eqb, ◌⊎◌, List, [], ◌∷◌, ◌++◌, length, None, Ok, Err, Option, Result, sym, refl, ap, ◌∙◌, subst, inl, inr, arith}
use Rattle.std.proofs.lemmas.List.{append-nil}
use Rattle.std.proofs.lemmas.Bool.{eqb-true}
use Rattle.std.proofs.lemmas.Bool.Decides.{nat_tests}
use Rattle.message.specs.declared.fault.Fault.{Fault}
use Rattle.message.specs.declared.fault.Refusal.TheVariants.{CutShort, VariablePart}
use Rattle.reader.specs.Window.{Window, then, lift}
use Rattle.message.specs.Content.{Content}
use Rattle.reader.specs.Reading.{header, octet, ends, reference, field, sequence_number, pointer, points_here, variable, counted, called_address, segment, called_party, optional_part, agreed, two_references, connection_request, connection_confirm, connection_refused, released, release_complete, data_form_1, data_form_2, data_acknowledgement, reset_request, reset_confirm, error, message_of, value, reading}
use Rattle.message.specs.Layout.{IsReference, IsOptional, Points, LaidOut, IsMessage, more_octet}
use Rattle.reader.proofs.Steps.{lift_value}
use Rattle.reader.proofs.Fields.{rest, first, further, octet_front, ends_front, counted_front, reference_front, field_front, sequence_front, pointer_front, points_front, address_front}
use Rattle.reader.proofs.Optional.{optional_front, agreed_front}

distance : (x y a b n : ℕ) → x ≡ a → x + y ≡ b → b ≡ a + n → y ≡ n
distance x y a b n e f g = omega arith

-- M as an octet by itself, and as the last bit of one
flag : (x : ℕ) → x ≤ 1 → x ≡ more_octet (eqb x 1)
flag x h = grind (arith, nat_tests)

halves : (x : ℕ) → x ≡ x / 2 * 2 + more_octet (eqb (x % 2) 1)
halves x = let r : x % 2 < 2 = omega arith in grind (arith, nat_tests)

header_passed : {B : Type 0} (size : ℕ) (w : Window) (next : Window → Result B Fault) (b : B) → then (header size w) (λ p. next p.1) ≡ Ok b → next w ≡ Ok b
unfolding header
header_passed size w next b e = grind (arith, nat_tests)

-- the last step gives the value
whole_same : {A : Type 0} (q p : A × Window) → ◌≡◌ {A = Result (A × Window) Fault} (Ok q) (Ok p) → p ≡ q
whole_same q p e = cc

value_same : {A : Type 0} (x : A) (v : Window) (p : A × Window) → ◌≡◌ {A = Result (A × Window) Fault} (Ok (x, v)) (Ok p) → p.0 ≡ x
value_same x v p e = ap (λ q. q.0) (whole_same (x, v) p e)

given : (c : Content) (v : Window) (p : Content × Window) (octets : List ℕ) → ◌≡◌ {A = Result (Content × Window) Fault} (Ok (c, v)) (Ok p) → LaidOut c octets → LaidOut p.0 octets
given c v p octets e l = subst (λ (x : Content). LaidOut x octets) (sym (value_same c v p e)) l

-- O, what stands behind it, and the optional part
points_laid : (due : Bool) (between : List ℕ) (o : ℕ × ℕ) (w v : Window) (p : Option ℕ × Window) → rest w ≡ o.1 ∷ between ++ rest v → o.0 + (1 + length between) ≡ v.place →
    optional_part due o v ≡ Ok p → Points due between p.0 (rest w)
points_laid due between o w v p front place e = by (optional_front due o v p e)
  where
    by : ((o.1 ≡ 0) × (rest v ≡ []) × (p.0 ≡ None)) ⊎ ((o.0 + o.1 ≡ v.place) × IsOptional due p.0 (rest v)) → Points due between p.0 (rest w)
    by (inl (z, empty, none)) = inl (front ∙ rw (z, empty) (ap (λ xs. 0 ∷ xs) (append-nil between)), none)
    by (inr (points, is)) = let d : o.1 ≡ 1 + length between = omega arith in inr (rest v, rw d at front, is)

-- the pointer V, a segment's data straight behind it, and nothing else
segment_laid : (w : Window) (p : List ℕ × Window) → segment w ≡ Ok p → (rest w ≡ 1 ∷ length p.0 ∷ p.0) × (1 ≤ length p.0)
unfolding segment variable
segment_laid w p e =
    let v = first (pointer w) _ p e in
    let h = first (points_here v.0.0 v.0.1) _ p v.2 in
    let x = first (counted VariablePart h.0.1.place h.0.1) _ p h.2 in
    let n = first (ends VariablePart x.0.1) _ p x.2 in
    let fv = pointer_front w v.0 v.1 in
    let fh = points_front v.0.1 v.0.0 h.0 h.1 in
    let fx = counted_front VariablePart h.0.1 h.0.1.place x.0 x.1 in
    let fn = ends_front VariablePart x.0.1 n.0 n.1 in
    let one : v.0.0.1 ≡ 1 = distance v.0.0.0 v.0.0.1 w.place v.0.1.place 1 fv.1 fh.1 fv.2.1 in
    let whole : rest w ≡ 1 ∷ length x.0.0 ∷ x.0.0 ++ [] =
    fv.0 ∙ ap (λ y. y ∷ rest v.0.1) one ∙ ap (λ xs. 1 ∷ xs) (sym (ap rest fh.0) ∙ fx.0 ∙ ap (λ xs. length x.0.0 ∷ x.0.0 ++ xs) fn.0) in
    let same : p.0 ≡ x.0.0 = value_same _ _ p n.2 in
    (whole ∙ ap (λ xs. 1 ∷ length x.0.0 ∷ xs) (append-nil x.0.0) ∙ ap (λ xs. 1 ∷ length xs ∷ xs) (sym same), subst (λ (xs : List ℕ). 1 ≤ length xs) (sym same) fx.1)

-- V, O and the called address: what stands behind O, up to the optional part
called_laid : (w : Window) (p : (ℕ × (ℕ × ℕ)) × Window) → called_party w ≡ Ok p →
    (v : Window) × (rest w ≡ 2 ∷ rest v) × (rest v ≡ p.0.1.1 ∷ 2 ∷ 66 ∷ p.0.0 ∷ rest p.1) × (1 ≤ p.0.0) × (p.0.1.0 + 4 ≡ p.1.place)
unfolding called_party
called_laid w p e =
    let v = first (pointer w) _ p e in
    let o = first (pointer v.0.1) _ p v.2 in
    let h = first (points_here v.0.0 o.0.1) _ p o.2 in
    let a = first (called_address h.0.1) _ p h.2 in
    let fv = pointer_front w v.0 v.1 in
    let fo = pointer_front v.0.1 o.0 o.1 in
    let fh = points_front o.0.1 v.0.0 h.0 h.1 in
    let fa = address_front h.0.1 a.0 a.1 in
    let two : v.0.0.1 ≡ 2 = distance v.0.0.0 v.0.0.1 w.place o.0.1.place 2 fv.1 fh.1 (sym (further _ _ _ 1 1 fv.2.1 fo.2.1)) in
    let same : p ≡ ((a.0.0, o.0.0), a.0.1) = whole_same _ p a.2 in
    let front : rest v.0.1 ≡ o.0.0.1 ∷ 2 ∷ 66 ∷ a.0.0 ∷ rest a.0.1 = fo.0 ∙ ap (λ xs. o.0.0.1 ∷ xs) (sym (ap rest fh.0) ∙ fa.0) in
    let at : o.0.0.0 + 4 ≡ a.0.1.place = ap (λ x. x + 4) fo.1 ∙ further _ _ _ 1 3 fo.2.1 (fa.2.1 ∙ ap (λ x. x.place + 3) fh.0) in
    subst (λ (q : (ℕ × (ℕ × ℕ)) × Window). (v : Window) × (rest w ≡ 2 ∷ rest v) × (rest v ≡ q.0.1.1 ∷ 2 ∷ 66 ∷ q.0.0 ∷ rest q.1) × (1 ≤ q.0.0) × (q.0.1.0 + 4 ≡ q.1.place))
    (sym same) (v.0.1, fv.0 ∙ ap (λ y. y ∷ rest v.0.1) two, front, fa.1, at)

module _ (w : Window) (p : Content × Window) where
  request_laid : connection_request w ≡ Ok p → LaidOut p.0 (1 ∷ rest w)
  request_laid e =
      let s = first (reference w) _ p (header_passed 7 w _ p e) in
      let c = first (field 2 3 s.0.1) _ p s.2 in
      let a = first (called_party c.0.1) _ p c.2 in
      let f = first (optional_part true a.0.0.1 a.0.1) _ p a.2 in
      let g = first (lift (agreed s.0.1.place c.0.0 f.0.0) f.0.1) _ p f.2 in
      let fs = reference_front w s.0 s.1 in
      let fc = field_front s.0.1 2 3 c.0 c.1 in
      let fa = called_laid c.0.1 a.0 a.1 in
      let fg = agreed_front s.0.1.place c.0.0 f.0.0 g.0.0 fc.1 fc.2 (lift_value _ f.0.1 g.0 g.1) in
      let points = points_laid true (2 ∷ 66 ∷ a.0.0.0 ∷ []) a.0.0.1 fa.0 a.0.1 f.0 fa.2 fa.4 f.1 in
      given _ _ p (1 ∷ rest w) g.2
      (fs.0, rest fa.0, f.0.0, rw (fg.0, fs.1, fc.0, fa.1) refl, fs.2, points, fa.3, rw fg.0 fg.1)

  confirm_laid : connection_confirm w ≡ Ok p → LaidOut p.0 (2 ∷ rest w)
  confirm_laid e =
      let d = first (reference w) _ p (header_passed 9 w _ p e) in
      let s = first (reference d.0.1) _ p d.2 in
      let c = first (field 2 3 s.0.1) _ p s.2 in
      let o = first (pointer c.0.1) _ p c.2 in
      let f = first (optional_part true o.0.0 o.0.1) _ p o.2 in
      let g = first (lift (agreed s.0.1.place c.0.0 f.0.0) f.0.1) _ p f.2 in
      let fd = reference_front w d.0 d.1 in
      let fs = reference_front d.0.1 s.0 s.1 in
      let fc = field_front s.0.1 2 3 c.0 c.1 in
      let fo = pointer_front c.0.1 o.0 o.1 in
      let fg = agreed_front s.0.1.place c.0.0 f.0.0 g.0.0 fc.1 fc.2 (lift_value _ f.0.1 g.0 g.1) in
      let points = points_laid true [] o.0.0 c.0.1 o.0.1 f.0 fo.0 (ap (λ x. x + 1) fo.1 ∙ sym fo.2.1) f.1 in
      given _ _ p (2 ∷ rest w) g.2
      (fd.0, fs.0, rest c.0.1, f.0.0, rw (fg.0, fd.1, fs.1, fc.0) refl, fd.2, fs.2, points, rw fg.0 fg.1)

  refused_laid : connection_refused w ≡ Ok p → LaidOut p.0 (3 ∷ rest w)
  refused_laid e =
      let d = first (reference w) _ p (header_passed 6 w _ p e) in
      let c = first (field 0 15 d.0.1) _ p d.2 in
      let o = first (pointer c.0.1) _ p c.2 in
      let f = first (optional_part false o.0.0 o.0.1) _ p o.2 in
      let fd = reference_front w d.0 d.1 in
      let fc = field_front d.0.1 0 15 c.0 c.1 in
      let fo = pointer_front c.0.1 o.0 o.1 in
      let points = points_laid false [] o.0.0 c.0.1 o.0.1 f.0 fo.0 (ap (λ x. x + 1) fo.1 ∙ sym fo.2.1) f.1 in
      given _ _ p (3 ∷ rest w) f.2 (fd.0, rest c.0.1, f.0.0, rw (fd.1, fc.0) refl, fd.2, fc.2, points)

  released_laid : released w ≡ Ok p → LaidOut p.0 (4 ∷ rest w)
  released_laid e =
      let d = first (reference w) _ p (header_passed 9 w _ p e) in
      let s = first (reference d.0.1) _ p d.2 in
      let c = first (field 0 15 s.0.1) _ p s.2 in
      let o = first (pointer c.0.1) _ p c.2 in
      let f = first (optional_part false o.0.0 o.0.1) _ p o.2 in
      let fd = reference_front w d.0 d.1 in
      let fs = reference_front d.0.1 s.0 s.1 in
      let fc = field_front s.0.1 0 15 c.0 c.1 in
      let fo = pointer_front c.0.1 o.0 o.1 in
      let points = points_laid false [] o.0.0 c.0.1 o.0.1 f.0 fo.0 (ap (λ x. x + 1) fo.1 ∙ sym fo.2.1) f.1 in
      given _ _ p (4 ∷ rest w) f.2 (fd.0, fs.0, rest c.0.1, f.0.0, rw (fd.1, fs.1, fc.0) refl, fd.2, fs.2, fc.2, points)

  references_laid : (type : ℕ) (p : (ℕ × ℕ) × Window) → two_references w ≡ Ok p →
      (d s : List ℕ) × (type ∷ rest w ≡ type ∷ d ++ s) × IsReference p.0.0 d × IsReference p.0.1 s
  unfolding two_references
  references_laid type p e =
      let d = first (reference w) _ p (header_passed 7 w _ p e) in
      let s = first (reference d.0.1) _ p d.2 in
      let n = first (ends VariablePart s.0.1) _ p s.2 in
      let fd = reference_front w d.0 d.1 in
      let fs = reference_front d.0.1 s.0 s.1 in
      let fn = ends_front VariablePart s.0.1 n.0 n.1 in
      let same : p.0 ≡ (d.0.0, s.0.0) = value_same _ _ p n.2 in (
        fd.0,
        fs.0,
        rw (fd.1, fs.1, fn.0) (ap (λ xs. type ∷ fd.0 ++ xs) (append-nil fs.0)),
        subst (λ (x : ℕ). IsReference x fd.0) (sym (ap (λ q. q.0) same)) fd.2,
        subst (λ (x : ℕ). IsReference x fs.0) (sym (ap (λ q. q.1) same)) fs.2,
      )

  complete_laid : release_complete w ≡ Ok p → LaidOut p.0 (5 ∷ rest w)
  complete_laid e = let b = first (two_references w) _ p e in given _ _ p (5 ∷ rest w) b.2 (references_laid 5 b.0 b.1)

  confirmed_laid : reset_confirm w ≡ Ok p → LaidOut p.0 (14 ∷ rest w)
  confirmed_laid e = let b = first (two_references w) _ p e in given _ _ p (14 ∷ rest w) b.2 (references_laid 14 b.0 b.1)

  reset_laid : reset_request w ≡ Ok p → LaidOut p.0 (13 ∷ rest w)
  reset_laid e =
      let d = first (reference w) _ p (header_passed 8 w _ p e) in
      let s = first (reference d.0.1) _ p d.2 in
      let c = first (field 0 15 s.0.1) _ p s.2 in
      let n = first (ends VariablePart c.0.1) _ p c.2 in
      let fd = reference_front w d.0 d.1 in
      let fs = reference_front d.0.1 s.0 s.1 in
      let fc = field_front s.0.1 0 15 c.0 c.1 in
      let fn = ends_front VariablePart c.0.1 n.0 n.1 in
      given _ _ p (13 ∷ rest w) n.2 (fd.0, fs.0, rw (fd.1, fs.1, fc.0, fn.0) refl, fd.2, fs.2, fc.2)

  error_laid : error w ≡ Ok p → LaidOut p.0 (15 ∷ rest w)
  error_laid e =
      let d = first (reference w) _ p (header_passed 5 w _ p e) in
      let c = first (field 0 4 d.0.1) _ p d.2 in
      let n = first (ends VariablePart c.0.1) _ p c.2 in
      let fd = reference_front w d.0 d.1 in
      let fc = field_front d.0.1 0 4 c.0 c.1 in
      let fn = ends_front VariablePart c.0.1 n.0 n.1 in
      given _ _ p (15 ∷ rest w) n.2 (fd.0, rw (fd.1, fc.0, fn.0) refl, fd.2, fc.2)

  acknowledgement_laid : data_acknowledgement w ≡ Ok p → LaidOut p.0 (8 ∷ rest w)
  acknowledgement_laid e =
      let d = first (reference w) _ p (header_passed 6 w _ p e) in
      let r = first (sequence_number d.0.1) _ p d.2 in
      let c = first (field 1 127 r.0.1) _ p r.2 in
      let n = first (ends VariablePart c.0.1) _ p c.2 in
      let fd = reference_front w d.0 d.1 in
      let fr = sequence_front d.0.1 r.0 r.1 in
      let fc = field_front r.0.1 1 127 c.0 c.1 in
      let fn = ends_front VariablePart c.0.1 n.0 n.1 in
      given _ _ p (8 ∷ rest w) n.2 (fd.0, rw (fd.1, fr.0, fc.0, fn.0) refl, fd.2, fc.1, fc.2)

  form_1_laid : data_form_1 w ≡ Ok p → LaidOut p.0 (6 ∷ rest w)
  form_1_laid e =
      let d = first (reference w) _ p (header_passed 6 w _ p e) in
      let m = first (field 0 1 d.0.1) _ p d.2 in
      let x = first (segment m.0.1) _ p m.2 in
      let fd = reference_front w d.0 d.1 in
      let fm = field_front d.0.1 0 1 m.0 m.1 in
      let fx = segment_laid m.0.1 x.0 x.1 in
      given _ _ p (6 ∷ rest w) x.2
      (fd.0, rw (fd.1, fm.0, fx.0) (ap (λ y. 6 ∷ fd.0 ++ y ∷ 1 ∷ length x.0.0 ∷ x.0.0) (flag m.0.0 fm.2)), fd.2, fx.1)

  form_2_laid : data_form_2 w ≡ Ok p → LaidOut p.0 (7 ∷ rest w)
  form_2_laid e =
      let d = first (reference w) _ p (header_passed 7 w _ p e) in
      let s = first (sequence_number d.0.1) _ p d.2 in
      let r = first (octet CutShort s.0.1) _ p s.2 in
      let x = first (segment r.0.1) _ p r.2 in
      let fd = reference_front w d.0 d.1 in
      let fs = sequence_front d.0.1 s.0 s.1 in
      let fr = octet_front CutShort s.0.1 r.0 r.1 in
      let fx = segment_laid r.0.1 x.0 x.1 in
      given _ _ p (7 ∷ rest w) x.2
      (fd.0, rw (fd.1, fs.0, fr.0, fx.0) (ap (λ y. 7 ∷ fd.0 ++ (s.0.0 * 2) ∷ y ∷ 1 ∷ length x.0.0 ∷ x.0.0) (halves r.0.0)), fd.2, fx.1)

  -- by the type
  one_type : (type k : ℕ) (message others : Result (Content × Window) Fault) → (message ≡ Ok p → LaidOut p.0 (k ∷ rest w)) → (others ≡ Ok p → LaidOut p.0 (type ∷ rest w)) →
      cond (eqb type k) message others ≡ Ok p → LaidOut p.0 (type ∷ rest w)
  one_type type k message others this that e = by (eqb type k) refl
    where
      by : (b : Bool) → eqb type k ≡ b → LaidOut p.0 (type ∷ rest w)
      by true is = subst (λ (x : ℕ). LaidOut p.0 (x ∷ rest w)) (sym (eqb-true type k is)) (this (rw is at e))
      by false is = that (rw is at e)

  message_laid : (type : ℕ) → message_of type w ≡ Ok p → LaidOut p.0 (type ∷ rest w)
  message_laid type =
      one_type type 1 _ _ request_laid (one_type type 2 _ _ confirm_laid (one_type type 3 _ _ refused_laid (one_type type 4 _ _ released_laid
      (one_type type 5 _ _ complete_laid (one_type type 6 _ _ form_1_laid (one_type type 7 _ _ form_2_laid (one_type type 8 _ _ acknowledgement_laid
      (one_type type 13 _ _ reset_laid (one_type type 14 _ _ confirmed_laid (one_type type 15 _ _ error_laid
      (λ e. absurd cc)))))))))))

value_gives : (r : Result (Content × Window) Fault) (c : Content) → value r ≡ Ok c → (v : Window) × (r ≡ Ok (c, v))
value_gives (Ok p) c e = (p.1, let same : p.0 ≡ c = cc in ap (λ x. Ok (x, p.1)) same)
value_gives (Err fault) c e = absurd cc

-- what is read as a message is laid out as that message
pub sound : (octets : List ℕ) (c : Content) → reading octets ≡ Ok c → IsMessage c octets
unfolding reading
sound [] c e = absurd cc
sound (type ∷ octets) c e =
    let w : Window = record { octets = type ∷ octets; place = 1 } in
    let size : length (type ∷ octets) ≤ 268 = grind (arith, nat_tests) in
    let read : value (message_of type w) ≡ Ok c = grind (arith, nat_tests) in
    let g = value_gives (message_of type w) c read in
    (size, message_laid w (c, g.0) type g.1)
