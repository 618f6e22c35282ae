-- What is laid out as a message is read as that message.
use Rattle.std.proofs.Common.{◌≡◌, ℕ, suc, ◌+◌, ◌*◌, ◌/◌, ◌%◌, ◌≤◌, Bool, true, false, eqb, List, [], ◌∷◌, ◌++◌, length, Ok, Option, sym, refl, ap, ◌∙◌, subst, inl, inr, zero-le, arith, lit≤}
use Rattle.std.proofs.lemmas.List.{append-nil, length-drop}
use Rattle.std.proofs.lemmas.Bool.{le-ltb, le-leb, eq-eqb, ne_eqb}
use Rattle.message.specs.declared.fault.Refusal.TheVariants.{CutShort, VariablePart}
use Rattle.reader.specs.Window.{Window}
use Rattle.message.specs.Content as content
use Rattle.message.specs.Content.{Content}
use Rattle.reader.specs.Reading.{header, variable, segment, called_party, two_references, optional_part, connection_request, connection_confirm, connection_refused, released, data_form_1, data_form_2, data_acknowledgement, reset_request, error, message_of, value, reading}
use Rattle.message.specs.Layout.{IsReference, Points, HasCredit, LaidOut, IsMessage, more_octet}
use Rattle.reader.proofs.Fields.{rest, further, octet_takes, ends_takes, counted_takes, reference_takes, field_takes, sequence_takes, pointer_takes, points_takes, address_takes}
use Rattle.reader.proofs.Optional.{optional_none, optional_takes, agreed_takes}

-- all but the first octet
behind : (x : ℕ) (xs ys : List ℕ) → x ∷ xs ≡ x ∷ ys → xs ≡ ys
behind x xs ys e = cc

ahead : (x y : ℕ) (xs ys : List ℕ) → x ∷ xs ≡ y ∷ ys → x ≡ y
ahead x y xs ys e = cc

-- the header is all there
header_takes : (n : ℕ) (w : Window) (xs : List ℕ) → w.place ≡ 1 → rest w ≡ xs → 1 ≤ n → n ≤ length xs → header (n + 1) w ≡ Ok (tt, w)
unfolding header
header_takes n w xs start e some long =
    let enough : n + 1 ≤ length w.octets = omega (arith, ap length e, length-drop w.place w.octets) in
    rw (le-ltb (length w.octets) (n + 1) enough) refl

one_more : (n : ℕ) {m : ℕ} → n ≤ m → n + 1 ≤ suc m
one_more n h = omega arith

reference_long : (v : ℕ) (s xs : List ℕ) (n : ℕ) → IsReference v s → n ≤ length xs → 3 + n ≤ length (s ++ xs)
reference_long v s xs n (low, middle, high, is, value, above) h = rw is (omega arith)

points_long : (due : Bool) (between : List ℕ) (found : Option ℕ) (xs : List ℕ) → Points due between found xs → 1 ≤ length xs
points_long due between found xs (inl (e, none)) = rw e (omega arith)
points_long due between found xs (inr (r, e, is)) = rw e (omega arith)

-- O is read, whatever stands behind it
optional_from : (due : Bool) (between : List ℕ) (found : Option ℕ) (xs : List ℕ) → Points due between found xs →
    (x : ℕ) × (left : List ℕ) × (xs ≡ x ∷ between ++ left)
    × ((place : ℕ) (v : Window) → rest v ≡ left → place + (1 + length between) ≡ v.place → (u : Window) × (optional_part due (place, x) v ≡ Ok (found, u)))
optional_from due between found xs (inl (e, none)) =
    (0, [], e ∙ ap (λ ys. 0 ∷ ys) (sym (append-nil between)), λ place v empty at. (v, rw none (optional_none due (place, 0) v refl empty)))
optional_from due between found xs (inr (left, e, is)) =
    (1 + length between, left, e, λ place v f at. optional_takes due (place, 1 + length between) v found left (λ z. omega arith) at is f)

credit_class : (class credit : ℕ) (found : Option ℕ) → HasCredit class credit found → (2 ≤ class) × (class ≤ 3)
credit_class class credit found (inl (two, none, nothing)) = (omega arith, omega arith)
credit_class class credit found (inr (three, known, low, high)) = (omega arith, omega arith)

flag_low : (more : Bool) → more_octet more ≤ 1
flag_low true = lit≤ tt
flag_low false = lit≤ tt

flag_read : (more : Bool) → eqb (more_octet more) 1 ≡ more
flag_read true = refl
flag_read false = refl

half_read : (receive : ℕ) (more : Bool) → (receive * 2 + more_octet more) / 2 ≡ receive
half_read receive true = omega arith
half_read receive false = omega arith

bit_read : (receive : ℕ) (more : Bool) → eqb ((receive * 2 + more_octet more) % 2) 1 ≡ more
bit_read receive true = eq-eqb _ _ (omega arith)
bit_read receive false = ne_eqb _ _ (λ e. omega arith)

segment_read : (w : Window) (octets : List ℕ) → 1 ≤ length octets → rest w ≡ 1 ∷ length octets ∷ octets → (v : Window) × (segment w ≡ Ok (octets, v))
unfolding segment variable
segment_read w octets some e =
    let v = pointer_takes w 1 _ e in
    let p = points_takes v.0 (w.place, 1) (sym v.3.1) in
    let x = counted_takes VariablePart v.0 v.0.place octets [] some (v.2 ∙ ap (λ xs. length octets ∷ xs) (sym (append-nil octets))) in
    let n = ends_takes VariablePart x.0 x.2 in
    (x.0, rw (v.1, p, x.1, n) refl)

called_read : (w : Window) (subsystem x : ℕ) (left : List ℕ) → 1 ≤ subsystem → rest w ≡ 2 ∷ x ∷ 2 ∷ 66 ∷ subsystem ∷ left →
    (place : ℕ) × (v : Window) × (called_party w ≡ Ok ((subsystem, (place, x)), v)) × (rest v ≡ left) × (place + 4 ≡ v.place)
unfolding called_party
called_read w subsystem x left some e =
    let v = pointer_takes w 2 _ e in
    let o = pointer_takes v.0 x _ v.2 in
    let p = points_takes o.0 (w.place, 2) (further _ _ _ 1 1 v.3.1 o.3.1) in
    let a = address_takes o.0 subsystem left some o.2 in
    (v.0.place, a.0, rw (v.1, o.1, p, a.1) refl, a.2, further _ _ _ 1 3 o.3.1 a.3.1)

module _ (w : Window) (start : w.place ≡ 1) where
  request_read : (source class credit subsystem : ℕ) → LaidOut (content.connection_request source class credit subsystem) (1 ∷ rest w) →
      (v : Window) × (connection_request w ≡ Ok (content.connection_request source class credit subsystem, v))
  request_read source class credit subsystem (src, xs, found, e, is_source, points, some, has) =
      let front = behind 1 (rest w) (src ++ class ∷ 2 ∷ xs) e in
      let h = header_takes 6 w _ start front (lit≤ tt) (reference_long source src (class ∷ 2 ∷ xs) 3 is_source (one_more 2 (one_more 1 (points_long true _ found xs points)))) in
      let range = credit_class class credit found has in
      let s = reference_takes w source src (class ∷ 2 ∷ xs) is_source front in
      let c = field_takes s.0 2 3 class (2 ∷ xs) range.0 range.1 s.2 in
      let opt = optional_from true (2 ∷ 66 ∷ subsystem ∷ []) found xs points in
      let a = called_read c.0 subsystem opt.0 opt.1 some (c.2 ∙ ap (λ ys. 2 ∷ ys) opt.2) in
      let f = opt.3 a.0 a.1 a.3 a.4 in
      (f.0, rw (h, s.1, c.1, a.2, f.1, agreed_takes s.0.place class credit found has) refl)

  confirm_read : (destination source class credit : ℕ) → LaidOut (content.connection_confirm destination source class credit) (2 ∷ rest w) →
      (v : Window) × (connection_confirm w ≡ Ok (content.connection_confirm destination source class credit, v))
  confirm_read destination source class credit (dst, src, xs, found, e, is_destination, is_source, points, has) =
      let front = behind 2 (rest w) (dst ++ (src ++ class ∷ xs)) e in
      let h = header_takes 8 w _ start front (lit≤ tt) (reference_long destination dst _ 5 is_destination (reference_long source src _ 2 is_source (one_more 1 (points_long true _ found xs points)))) in
      let range = credit_class class credit found has in
      let d = reference_takes w destination dst _ is_destination front in
      let s = reference_takes d.0 source src _ is_source d.2 in
      let c = field_takes s.0 2 3 class xs range.0 range.1 s.2 in
      let opt = optional_from true [] found xs points in
      let o = pointer_takes c.0 opt.0 opt.1 (c.2 ∙ opt.2) in
      let f = opt.3 c.0.place o.0 o.2 (sym o.3.1) in
      (f.0, rw (h, d.1, s.1, c.1, o.1, f.1, agreed_takes s.0.place class credit found has) refl)

  refused_read : (destination cause : ℕ) → LaidOut (content.connection_refused destination cause) (3 ∷ rest w) →
      (v : Window) × (connection_refused w ≡ Ok (content.connection_refused destination cause, v))
  refused_read destination cause (dst, xs, found, e, is_destination, listed, points) =
      let front = behind 3 (rest w) (dst ++ cause ∷ xs) e in
      let h = header_takes 5 w _ start front (lit≤ tt) (reference_long destination dst _ 2 is_destination (one_more 1 (points_long false _ found xs points))) in
      let d = reference_takes w destination dst _ is_destination front in
      let c = field_takes d.0 0 15 cause xs zero-le listed d.2 in
      let opt = optional_from false [] found xs points in
      let o = pointer_takes c.0 opt.0 opt.1 (c.2 ∙ opt.2) in
      let f = opt.3 c.0.place o.0 o.2 (sym o.3.1) in
      (f.0, rw (h, d.1, c.1, o.1, f.1) refl)

  released_read : (destination source cause : ℕ) → LaidOut (content.released destination source cause) (4 ∷ rest w) →
      (v : Window) × (released w ≡ Ok (content.released destination source cause, v))
  released_read destination source cause (dst, src, xs, found, e, is_destination, is_source, listed, points) =
      let front = behind 4 (rest w) (dst ++ (src ++ cause ∷ xs)) e in
      let h = header_takes 8 w _ start front (lit≤ tt) (reference_long destination dst _ 5 is_destination (reference_long source src _ 2 is_source (one_more 1 (points_long false _ found xs points)))) in
      let d = reference_takes w destination dst _ is_destination front in
      let s = reference_takes d.0 source src _ is_source d.2 in
      let c = field_takes s.0 0 15 cause xs zero-le listed s.2 in
      let opt = optional_from false [] found xs points in
      let o = pointer_takes c.0 opt.0 opt.1 (c.2 ∙ opt.2) in
      let f = opt.3 c.0.place o.0 o.2 (sym o.3.1) in
      (f.0, rw (h, d.1, s.1, c.1, o.1, f.1) refl)

  -- RLC and RSC
  references_read : (type destination source : ℕ) (dst src : List ℕ) → type ∷ rest w ≡ type ∷ dst ++ src → IsReference destination dst → IsReference source src →
      (v : Window) × (two_references w ≡ Ok ((destination, source), v))
  unfolding two_references
  references_read type destination source dst src e is_destination is_source =
      let front = behind type (rest w) (dst ++ src) e in
      let longer = subst (λ (xs : List ℕ). 3 ≤ length xs) (append-nil src) (reference_long source src [] 0 is_source (lit≤ tt)) in
      let h = header_takes 6 w _ start front (lit≤ tt) (reference_long destination dst src 3 is_destination longer) in
      let d = reference_takes w destination dst src is_destination front in
      let s = reference_takes d.0 source src [] is_source (d.2 ∙ sym (append-nil src)) in
      let n = ends_takes VariablePart s.0 s.2 in
      (s.0, rw (h, d.1, s.1, n) refl)

  reset_read : (destination source cause : ℕ) → LaidOut (content.reset_request destination source cause) (13 ∷ rest w) →
      (v : Window) × (reset_request w ≡ Ok (content.reset_request destination source cause, v))
  reset_read destination source cause (dst, src, e, is_destination, is_source, listed) =
      let front = behind 13 (rest w) (dst ++ (src ++ cause ∷ [])) e in
      let h = header_takes 7 w _ start front (lit≤ tt) (reference_long destination dst _ 4 is_destination (reference_long source src _ 1 is_source (lit≤ tt))) in
      let d = reference_takes w destination dst _ is_destination front in
      let s = reference_takes d.0 source src _ is_source d.2 in
      let c = field_takes s.0 0 15 cause [] zero-le listed s.2 in
      let n = ends_takes VariablePart c.0 c.2 in
      (c.0, rw (h, d.1, s.1, c.1, n) refl)

  error_read : (destination cause : ℕ) → LaidOut (content.error destination cause) (15 ∷ rest w) → (v : Window) × (error w ≡ Ok (content.error destination cause, v))
  error_read destination cause (dst, e, is_destination, listed) =
      let front = behind 15 (rest w) (dst ++ cause ∷ []) e in
      let h = header_takes 4 w _ start front (lit≤ tt) (reference_long destination dst _ 1 is_destination (lit≤ tt)) in
      let d = reference_takes w destination dst _ is_destination front in
      let c = field_takes d.0 0 4 cause [] zero-le listed d.2 in
      let n = ends_takes VariablePart c.0 c.2 in
      (c.0, rw (h, d.1, c.1, n) refl)

  acknowledgement_read : (destination receive credit : ℕ) → LaidOut (content.data_acknowledgement destination receive credit) (8 ∷ rest w) →
      (v : Window) × (data_acknowledgement w ≡ Ok (content.data_acknowledgement destination receive credit, v))
  acknowledgement_read destination receive credit (dst, e, is_destination, low, high) =
      let front = behind 8 (rest w) (dst ++ (receive * 2) ∷ credit ∷ []) e in
      let h = header_takes 5 w _ start front (lit≤ tt) (reference_long destination dst _ 2 is_destination (lit≤ tt)) in
      let d = reference_takes w destination dst _ is_destination front in
      let r = sequence_takes d.0 receive _ d.2 in
      let c = field_takes r.0 1 127 credit [] low high r.2 in
      let n = ends_takes VariablePart c.0 c.2 in
      (c.0, rw (h, d.1, r.1, c.1, n) refl)

  form_1_read : (destination : ℕ) (more : Bool) (octets : List ℕ) → LaidOut (content.data_form_1 destination more octets) (6 ∷ rest w) →
      (v : Window) × (data_form_1 w ≡ Ok (content.data_form_1 destination more octets, v))
  form_1_read destination more octets (dst, e, is_destination, some) =
      let front = behind 6 (rest w) (dst ++ more_octet more ∷ 1 ∷ length octets ∷ octets) e in
      let h = header_takes 5 w _ start front (lit≤ tt) (reference_long destination dst _ 2 is_destination (one_more 1 (one_more 0 zero-le))) in
      let d = reference_takes w destination dst _ is_destination front in
      let m = field_takes d.0 0 1 (more_octet more) _ zero-le (flag_low more) d.2 in
      let x = segment_read m.0 octets some m.2 in
      (x.0, rw (h, d.1, m.1, x.1, flag_read more) refl)

  form_2_read : (destination send receive : ℕ) (more : Bool) (octets : List ℕ) → LaidOut (content.data_form_2 destination send receive more octets) (7 ∷ rest w) →
      (v : Window) × (data_form_2 w ≡ Ok (content.data_form_2 destination send receive more octets, v))
  form_2_read destination send receive more octets (dst, e, is_destination, some) =
      let front = behind 7 (rest w) (dst ++ (send * 2) ∷ (receive * 2 + more_octet more) ∷ 1 ∷ length octets ∷ octets) e in
      let h = header_takes 6 w _ start front (lit≤ tt) (reference_long destination dst _ 3 is_destination (one_more 2 (one_more 1 (one_more 0 zero-le)))) in
      let d = reference_takes w destination dst _ is_destination front in
      let s = sequence_takes d.0 send _ d.2 in
      let r = octet_takes CutShort s.0 (receive * 2 + more_octet more) _ s.2 in
      let x = segment_read r.0 octets some r.2 in
      (x.0, rw (h, d.1, s.1, r.1, x.1, half_read receive more, bit_read receive more) refl)

  -- by the type
  one_type : (c : Content) (type k : ℕ) (left : List ℕ) → type ∷ rest w ≡ k ∷ left → (LaidOut c (k ∷ rest w) → (v : Window) × (message_of k w ≡ Ok (c, v))) → LaidOut c (type ∷ rest w) →
      (v : Window) × (message_of type w ≡ Ok (c, v))
  one_type c type k left e read l =
      let is = ahead type k (rest w) left e in
      let g = read (subst (λ (x : ℕ). LaidOut c (x ∷ rest w)) is l) in
      (g.0, subst (λ (x : ℕ). message_of x w ≡ Ok (c, g.0)) (sym is) g.1)

  message_read : (c : Content) (type : ℕ) → LaidOut c (type ∷ rest w) → (v : Window) × (message_of type w ≡ Ok (c, v))
  message_read (content.connection_request source class credit subsystem) type l = one_type _ type 1 _ l.3 (request_read source class credit subsystem) l
  message_read (content.connection_confirm destination source class credit) type l = one_type _ type 2 _ l.4 (confirm_read destination source class credit) l
  message_read (content.connection_refused destination cause) type l = one_type _ type 3 _ l.3 (refused_read destination cause) l
  message_read (content.released destination source cause) type l = one_type _ type 4 _ l.4 (released_read destination source cause) l
  message_read (content.release_complete destination source) type l =
      one_type _ type 5 _ l.2 (λ (d, s, e, is_d, is_s). let g = references_read 5 destination source d s e is_d is_s in (g.0, rw g.1 refl)) l
  message_read (content.data_form_1 destination more octets) type l = one_type _ type 6 _ l.1 (form_1_read destination more octets) l
  message_read (content.data_form_2 destination send receive more octets) type l = one_type _ type 7 _ l.1 (form_2_read destination send receive more octets) l
  message_read (content.data_acknowledgement destination receive credit) type l = one_type _ type 8 _ l.1 (acknowledgement_read destination receive credit) l
  message_read (content.reset_request destination source cause) type l = one_type _ type 13 _ l.2 (reset_read destination source cause) l
  message_read (content.reset_confirm destination source) type l =
      one_type _ type 14 _ l.2 (λ (d, s, e, is_d, is_s). let g = references_read 14 destination source d s e is_d is_s in (g.0, rw g.1 refl)) l
  message_read (content.error destination cause) type l = one_type _ type 15 _ l.1 (error_read destination cause) l

bare : {x : ℕ} {xs : List ℕ} → [] ≡ x ∷ xs → ⊥
bare e = cc

never_empty : (c : Content) → LaidOut c [] → ⊥
never_empty (content.connection_request source class credit subsystem) l = bare l.3
never_empty (content.connection_confirm destination source class credit) l = bare l.4
never_empty (content.connection_refused destination cause) l = bare l.3
never_empty (content.released destination source cause) l = bare l.4
never_empty (content.release_complete destination source) l = bare l.2
never_empty (content.data_form_1 destination more octets) l = bare l.1
never_empty (content.data_form_2 destination send receive more octets) l = bare l.1
never_empty (content.data_acknowledgement destination receive credit) l = bare l.1
never_empty (content.reset_request destination source cause) l = bare l.2
never_empty (content.reset_confirm destination source) l = bare l.2
never_empty (content.error destination cause) l = bare l.1

-- what is laid out as a message is read as that message
pub complete : (octets : List ℕ) (c : Content) → IsMessage c octets → reading octets ≡ Ok c
unfolding reading
complete [] c (size, l) = absurd (never_empty c l)
complete (type ∷ octets) c (size, l) =
    let g = message_read (record { octets = type ∷ octets; place = 1 }) refl c type l in
    rw (le-leb 1 (suc (length octets)) (omega arith), le-leb (suc (length octets)) 268 size, g.1) refl
