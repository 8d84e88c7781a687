-- What a diary has after a replica is handed messages, a parting or a regular configuration, or goes down.
use Rattle.std.proofs.Common.{◌≡◌, ℕ, ◌<◌, Bool, true, false, cond, ◌&&◌, ◌||◌, not, List, [], ◌∷◌, ◌++◌, Option, Some, None, refl, sym, ap, subst, ◌∙◌, arith, eq-eqb, eqb-true, ⊎_elim, fold, filter, flat_map, map, append-nil, append_assoc, is_none, if◌then◌else◌}
use Rattle.std.specs.Prelude.{◌==◌}
use Rattle.std.specs.Option.{option_map_or}
use Rattle.std.proofs.lemmas.Bool.{cases_Bool, cond-true, cond-false, ne_eqb, eqb-false, and_from, not_from_false}
use Rattle.std.proofs.lemmas.List.Sums.{fold-append}
use Rattle.cg_base.specs.Lists.{at_place}
use Rattle.cg_base.specs.Sets.{has}
use Rattle.cg_group.specs.declared.delivery.Delivery.{Delivery}
use Rattle.cg_group.specs.declared.delivery.Delivery.TheVariants.{Message, Transitional, Regular}
use Rattle.cg_group.specs.declared.delivery.Handed.{Handed}
use Rattle.cg_group.specs.State.{Configuration, Sent}
use Rattle.cg_group.specs.Events.{delivery_at, deliveries_at}
use Rattle.cg_group.specs.History.{Parting, Way, WentOn, Stay, Diary, no_stay, stay_in, stay_with, with_stray, note, may_part, parted, ended, going, fresh, may_begin, handed_to, NamesOnce}
use Rattle.cg_group.specs.LookupLaws.{at-cond}
use Rattle.cg_group.proofs.Picture.{handed_more, handed_parting}

module _ {M : Type 0} where
  -- all of these are messages
  abbrev pub AreMessages : List (Delivery M) → Type 0
  AreMessages [] = Unit {0}
  AreMessages (Message place from m ∷ list) = AreMessages list
  AreMessages (Transitional conf set ∷ list) = ⊥
  AreMessages (Regular conf set ∷ list) = ⊥

  AreMessages-append : (xs ys : List (Delivery M)) → AreMessages xs → AreMessages ys → AreMessages (xs ++ ys)
  AreMessages-append [] ys a b = b
  AreMessages-append (Message place from m ∷ xs) ys a b = AreMessages-append xs ys a b
  AreMessages-append (Transitional conf set ∷ xs) ys a b = a
  AreMessages-append (Regular conf set ∷ xs) ys a b = a

  AreMessages-one : (place : ℕ) (o : Option (Sent M)) → AreMessages (option_map_or (λ (s : Sent M). Message place s.from s.message ∷ []) o [])
  AreMessages-one place None = tt
  AreMessages-one place (Some s) = tt

  pub AreMessages-at : (C : Configuration M) (places : List ℕ) → AreMessages (deliveries_at C places)
  unfolding delivery_at
  AreMessages-at C [] = tt
  AreMessages-at C (place ∷ places) =
      AreMessages-append (delivery_at C place) (deliveries_at C places) (AreMessages-one place (at_place C.ordered place)) (AreMessages-at C places)

  -- a diary that fits where its replica is
  pub record Booked (conf : ℕ) (d : Diary M) : Type 0 where
    pub is_in : d.current ≡ conf
    pub idle : d.current ≡ 0 → d.now ≡ no_stay
    pub none_at_zero : d.past 0 ≡ no_stay
    pub in_turn : d.strays ≡ []

  -- messages before the parting
  pub noted_regular : (time : ℕ) (left : List ℕ) (xs : List (Delivery M)) → AreMessages xs → (d : Diary M) → (d.current == 0) ≡ false → d.now.parting ≡ None →
      fold (note time left) d xs ≡ record d { now = handed_more xs d.now }
  noted_regular time left [] a d some none =
      let same : d.now ≡ handed_more [] d.now = ap (λ z. let s : Stay M = d.now in record s { regular = z }) (sym (append-nil d.now.regular)) in
      ap (λ z. record d { now = z }) same
  noted_regular time left (Message place from m ∷ xs) a d some none =
      let x : Delivery M = Message place from m in
      let one : note time left d x ≡ record d { now = handed_more (x ∷ []) d.now } =
      cond-false (d.current == 0) (with_stray d x) (record d { now = stay_with d.now d.now.parting x }) some
      ∙ ap (λ o. record d { now = stay_with d.now o x }) none in
      ap (λ z. fold (note time left) z xs) one
      ∙ noted_regular time left xs a (record d { now = handed_more (x ∷ []) d.now }) some none
      ∙ ap (λ z. let s : Stay M = d.now in record d { now = record s { regular = z } }) (append_assoc d.now.regular (x ∷ []) xs)
  noted_regular time left (Transitional conf set ∷ xs) a d some none = absurd a
  noted_regular time left (Regular conf set ∷ xs) a d some none = absurd a

  -- messages behind the parting
  abbrev pub with_later : Parting M → List (Delivery M) → Stay M → Stay M
  with_later t xs s = record s { parting = Some (record t { later = t.later ++ xs }) }

  pub noted_later : (time : ℕ) (left : List ℕ) (xs : List (Delivery M)) → AreMessages xs → (d : Diary M) (t : Parting M) → (d.current == 0) ≡ false → d.now.parting ≡ Some t →
      fold (note time left) d xs ≡ record d { now = with_later t xs d.now }
  noted_later time left [] a d t some parting =
      let same : d.now ≡ with_later t [] d.now =
      ap (λ z. let s : Stay M = d.now in record s { parting = z }) (parting ∙ ap (λ z. Some (record t { later = z })) (sym (append-nil t.later))) in
      ap (λ z. record d { now = z }) same
  noted_later time left (Message place from m ∷ xs) a d t some parting =
      let x : Delivery M = Message place from m in
      let one : note time left d x ≡ record d { now = with_later t (x ∷ []) d.now } =
      cond-false (d.current == 0) (with_stray d x) (record d { now = stay_with d.now d.now.parting x }) some
      ∙ ap (λ o. record d { now = stay_with d.now o x }) parting in
      ap (λ z. fold (note time left) z xs) one
      ∙ noted_later time left xs a (record d { now = with_later t (x ∷ []) d.now }) (record t { later = t.later ++ x ∷ [] }) some refl
      ∙ ap (λ z. let s : Stay M = d.now in record d { now = record s { parting = Some (record t { later = z }) } }) (append_assoc t.later (x ∷ []) xs)
  noted_later time left (Transitional conf set ∷ xs) a d t some parting = absurd a
  noted_later time left (Regular conf set ∷ xs) a d t some parting = absurd a

  -- messages, a parting and messages behind it
  pub noted_parting : (time : ℕ) (left : List ℕ) (k : ℕ) (set : List ℕ) (xs ys : List (Delivery M)) → AreMessages xs → AreMessages ys → (d : Diary M) →
      d.current ≡ k → 0 < k → d.now.parting ≡ None →
      fold (note time left) d (xs ++ Transitional k set ∷ ys) ≡ record d { now = handed_parting xs (record { time = time; set = set; later = ys }) d.now }
  noted_parting time left k set xs ys a b d at pos none =
      let some : (d.current == 0) ≡ false = ne_eqb d.current 0 (λ z. omega arith) in
      let e : Diary M = record d { now = handed_more xs d.now } in
      let may : may_part e k ≡ true = and_from (not (d.current == 0)) ((k == d.current) && is_none d.now.parting) (not_from_false (d.current == 0) some)
      (and_from (k == d.current) (is_none d.now.parting) (eq-eqb k d.current (sym at)) (ap is_none none)) in
      let step : note time left e (Transitional k set) ≡ record e { now = parted time set e.now } =
      cond-true (may_part e k) (record e { now = parted time set e.now }) (with_stray e (Transitional k set)) may in
      fold-append (note time left) d xs (Transitional k set ∷ ys)
      ∙ ap (λ z. fold (note time left) (note time left z (Transitional k set)) ys) (noted_regular time left xs a d some none)
      ∙ ap (λ z. fold (note time left) z ys) step
      ∙ noted_later time left ys b (record e { now = parted time set e.now }) (record { time = time; set = set; later = [] }) some refl

  -- a choice within a choice
  both_now : (b : Bool) (f : Stay M → Stay M) (now past : Stay M) → cond b (f now) past ≡ cond b (f (cond b now past)) (cond b now past)
  both_now true f now past = refl
  both_now false f now past = refl

  -- a diary whose current stay has changed
  pub Booked-now : (k : ℕ) (d : Diary M) (f : Stay M → Stay M) → 0 < k → Booked k d → Booked k (record d { now = f d.now })
  Booked-now k d f pos b = record { is_in = b.is_in; idle = λ z. absurd (let e = b.is_in in omega arith); none_at_zero = b.none_at_zero; in_turn = b.in_turn }

  pub stay_in-now : (k : ℕ) (d : Diary M) (f : Stay M → Stay M) → Booked k d → (c : ℕ) →
      stay_in (record d { now = f d.now }) c ≡ cond (c == k) (f (stay_in d c)) (stay_in d c)
  stay_in-now k d f b c = both_now (c == d.current) f d.now (d.past c) ∙ ap (λ z. cond (c == z) (f (stay_in d c)) (stay_in d c)) b.is_in

  -- a diary whose current stay has ended
  pub Booked-ended : (k : ℕ) (d : Diary M) (way : Way) → Booked k d → Booked 0 (ended d way)
  Booked-ended k d way b = ⊎_elim
      (λ y. subst (Booked 0) (sym (cond-true (d.current == 0) d (over d way) y))
      (record { is_in = eqb-true d.current 0 y; idle = b.idle; none_at_zero = b.none_at_zero; in_turn = b.in_turn }))
      (λ n. subst (Booked 0) (sym (cond-false (d.current == 0) d (over d way) n))
      (record {
        is_in = refl;
        idle = λ z. refl;
        none_at_zero = cond-false (0 == d.current) (going d.now way) (d.past 0) (ne_eqb 0 d.current (λ z. eqb-false d.current 0 n (sym z))) ∙ b.none_at_zero;
        in_turn = b.in_turn;
      }))
      (cases_Bool (d.current == 0))
    where
      over : Diary M → Way → Diary M
      over d way = record d { current = 0; now = no_stay; past = λ conf. if conf == d.current then going d.now way else d.past conf }

  ended_choice : (z b : Bool) (now past none : Stay M) (f : Stay M → Stay M) → (z ≡ true → b ≡ false) → (z ≡ true → past ≡ none) →
      cond z none (cond b (f now) past) ≡ cond (b && not z) (f (cond b now past)) (cond b now past)
  ended_choice true true now past none f a e = absurd (let clash : true ≡ false = a refl in cc)
  ended_choice true false now past none f a e = sym (e refl)
  ended_choice false true now past none f a e = refl
  ended_choice false false now past none f a e = refl

  pub stay_in-ended : (k : ℕ) (d : Diary M) (way : Way) → Booked k d → (c : ℕ) →
      stay_in (ended d way) c ≡ cond ((c == k) && not (c == 0)) (going (stay_in d c) way) (stay_in d c)
  stay_in-ended k d way b c = ⊎_elim
      (λ y.
      let kz : k ≡ 0 = sym b.is_in ∙ eqb-true d.current 0 y in
      ap (λ z. stay_in z c) (cond-true (d.current == 0) d over y)
      ∙ sym (ap (λ z. cond ((c == z) && not (c == 0)) (going (stay_in d c) way) (stay_in d c)) kz ∙ never_both (c == 0) (going (stay_in d c) way) (stay_in d c)))
      (λ n.
      ap (λ z. stay_in z c) (cond-false (d.current == 0) d over n)
      ∙ ended_choice (c == 0) (c == d.current) d.now (d.past c) no_stay (λ s. going s way)
      (λ z. ne_eqb c d.current (λ e. eqb-false d.current 0 n (sym e ∙ eqb-true c 0 z)))
      (λ z. ap d.past (eqb-true c 0 z) ∙ b.none_at_zero)
      ∙ ap (λ z. cond ((c == z) && not (c == 0)) (going (stay_in d c) way) (stay_in d c)) b.is_in)
      (cases_Bool (d.current == 0))
    where
      over : Diary M
      over = record d { current = 0; now = no_stay; past = λ conf. if conf == d.current then going d.now way else d.past conf }

      never_both : (b : Bool) (x y : Stay M) → cond (b && not b) x y ≡ y
      never_both true x y = refl
      never_both false x y = refl

  -- a regular configuration that may be handed
  pub noted_begin : (time : ℕ) (left : List ℕ) (d : Diary M) (k : ℕ) (set : List ℕ) → may_begin d k ≡ true →
      fold (note time left) d (Regular k set ∷ []) ≡ (let over = ended d (WentOn time set left) in record over { current = k; now = fresh set })
  noted_begin time left d k set may =
      cond-true (may_begin d k) (let over = ended d (WentOn time set left) in record over { current = k; now = fresh set }) (with_stray d (Regular k set)) may

  pub Booked-begun : (k : ℕ) (d : Diary M) (set : List ℕ) → 0 < k → Booked 0 d → Booked k (record d { current = k; now = fresh set })
  Booked-begun k d set pos b = record { is_in = refl; idle = λ z. absurd (omega arith); none_at_zero = b.none_at_zero; in_turn = b.in_turn }

  pub stay_in-begun : (k : ℕ) (d : Diary M) (set : List ℕ) → Booked 0 d → (c : ℕ) →
      stay_in (record d { current = k; now = fresh set }) c ≡ cond (c == k) (fresh set) (stay_in d c)
  stay_in-begun k d set b c = ap (cond (c == k) (fresh set)) (sym (⊎_elim
      (λ y. cond-true (c == d.current) d.now (d.past c) y ∙ b.idle b.is_in
      ∙ sym (ap d.past (eqb-true c d.current y ∙ b.is_in) ∙ b.none_at_zero))
      (λ n. cond-false (c == d.current) d.now (d.past c) n) (cases_Bool (c == d.current))))

  one_of : (a b : Bool) (x y rest : List (Delivery M)) → (a ≡ true → b ≡ false) → (a ≡ true → x ≡ y) → rest ≡ cond b y [] →
      cond a (x ++ rest) rest ≡ cond (a || b) y []
  one_of true true x y rest out same e = absurd (let clash : true ≡ false = out refl in cc)
  one_of true false x y rest out same e = ap (λ z. x ++ z) e ∙ append-nil x ∙ same refl
  one_of false b x y rest out same e = e

  -- what a member of a set is handed, where each is handed a list
  pub handed_to-map : (list : ℕ → List (Delivery M)) (set : List ℕ) → NamesOnce set → (q : ℕ) →
      handed_to q (map (λ p. record { to = p; list = list p }) set) ≡ cond (has set q) (list q) []
  handed_to-map list [] once q = refl
  handed_to-map list (p ∷ set) once q =
      let rest : List (Handed M) = filter (λ h. h.to == q) (map (λ p. record { to = p; list = list p }) set) in
      let first : Handed M = record { to = p; list = list p } in
      at-cond (λ z. flat_map (λ (h : Handed M). h.list) z) (p == q) (first ∷ rest) rest
      ∙ one_of (p == q) (has set q) (list p) (list q) (flat_map (λ (h : Handed M). h.list) rest)
      (λ y. subst (λ z. has set z ≡ false) (eqb-true p q y) once.0) (λ y. ap list (eqb-true p q y)) (handed_to-map list set once.1 q)
