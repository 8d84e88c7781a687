-- The invariant stays when replicas leave what they are in: they go down, or on to what comes next.
use Rattle.std.proofs.Common.{◌≡◌, ℕ, suc, ◌<◌, ◌≤◌, ◌⊎◌, Bool, true, false, ◌&&◌, not, List, [], length, Some, None, refl, sym, ap, subst, ◌∙◌, arith, eqb-true, eq-eqb, inl, inr, ⊎_elim}
use Rattle.std.specs.Prelude.{◌==◌}
use Rattle.std.proofs.lemmas.Bool.{cond_both, and_parts, and_from, cases_Bool, cases_eq, cond-false, and_left, not-true, eqb-false, ne_eqb, not_from_false}
use Rattle.cg_base.specs.Sets.{has}
use Rattle.cg_base.specs.Lists.{above_up_to}
use Rattle.cg_group.specs.declared.phase.Phase.{Phase}
use Rattle.cg_group.specs.declared.phase.Phase.TheVariants.{Down, Alone, Regular, Transitional}
use Rattle.cg_group.specs.Ready.{all_received}
use Rattle.cg_group.specs.Events.{deliveries_at, transitional_places}
use Rattle.cg_group.specs.History.{Parting, Way, Never, Here, WentDown, WentOn, Stay, going, was_there}
use Rattle.cg_group.specs.Synchrony.{EndedBefore}
use Rattle.cg_group.proofs.Picture.{Picture, Holds, EndsBy, touched, conf_in}

-- an end by a call is one by the next
pub EndsBy-more : (time : ℕ) (w : Way) → EndsBy time w → EndsBy (suc time) w
EndsBy-more time Never e = tt
EndsBy-more time Here e = tt
EndsBy-more time (WentDown u) e = omega arith
EndsBy-more time (WentOn u set left) e = omega arith

module _ {M : Type 0} (P : Picture M) (h : Holds P) (closing : ℕ → Bool) (phases : ℕ → Phase) (counts : ℕ → ℕ) (way : Way)
    (out : (q : ℕ) → closing q ≡ true → (phases q ≡ Down) ⊎ (phases q ≡ Alone))
    (rest : (q : ℕ) → closing q ≡ false → phases q ≡ P.phase q)
    (counts_rest : (q : ℕ) → closing q ≡ false → counts q ≡ P.count q)
    (not_here : way ≡ Here → ⊥) (not_never : way ≡ Never → ⊥) (ends : EndsBy (suc P.time) way)
    (partings : (q c time : ℕ) (set left : List ℕ) → closing q ≡ true → conf_in (P.phase q) ≡ c → 0 < c → way ≡ WentOn time set left → (P.stay q c).parting ≡ None → ⊥)
    (leaves : (p q c : ℕ) (t : Parting M) (time : ℕ) (set left : List ℕ) → closing p ≡ true → conf_in (P.phase p) ≡ c → 0 < c →
    (P.stay p c).parting ≡ Some t → way ≡ WentOn time set left → has t.set q ≡ true →
    (has set q ≡ true) ⊎ (has left q ≡ true) ⊎ EndedBefore time (P.stay q c).way) where
  abbrev test : ℕ → ℕ → Bool
  test q c = closing q && ((c == conf_in (P.phase q)) && not (c == 0))

  abbrev change : ℕ → Stay M → Stay M
  change q s = going s way

  abbrev after : Picture M
  after = record P { phase = phases; count = counts; stay = touched test change P.stay; time = suc P.time }

  -- what the test says
  tested : (q c : ℕ) → test q c ≡ true → (closing q ≡ true) × (conf_in (P.phase q) ≡ c) × (0 < c)
  tested q c y =
      let a = and_parts (closing q) ((c == conf_in (P.phase q)) && not (c == 0)) y in
      let b = and_parts (c == conf_in (P.phase q)) (not (c == 0)) a.1 in
      (a.0, sym (eqb-true c (conf_in (P.phase q)) b.0), (let ne : (c ≡ 0 → ⊥) = eqb-false c 0 (not-true (c == 0) b.1) in omega arith))

  at_stay : (R : ℕ → ℕ → Stay M → Type 0) → ((q c : ℕ) → closing q ≡ true → conf_in (P.phase q) ≡ c → 0 < c → R q c (going (P.stay q c) way)) →
      ((q c : ℕ) → test q c ≡ false → R q c (P.stay q c)) → (q c : ℕ) → R q c (after.stay q c)
  at_stay R here others q c =
      cond_both (test q c) (going (P.stay q c) way) (P.stay q c) (R q c)
      (λ y. let a = tested q c y in here q c a.0 a.1 a.2) (others q c)

  parting_kept : (q c : ℕ) → (after.stay q c).parting ≡ (P.stay q c).parting
  parting_kept = at_stay (λ q c s. s.parting ≡ (P.stay q c).parting) (λ q c a b d. refl) (λ q c n. refl)

  regular_kept : (q c : ℕ) → (after.stay q c).regular ≡ (P.stay q c).regular
  regular_kept = at_stay (λ q c s. s.regular ≡ (P.stay q c).regular) (λ q c a b d. refl) (λ q c n. refl)

  -- who is in a configuration isn't one of those that leave, and nothing of it changes
  stays_in : (q c : ℕ) → conf_in (phases q) ≡ c → 0 < c → (closing q ≡ false) × (phases q ≡ P.phase q)
  stays_in q c e pos = ⊎_elim
      (λ y. absurd (⊎_elim (λ d. let z : 0 ≡ c = sym (ap conf_in d) ∙ e in omega arith) (λ d. let z : 0 ≡ c = sym (ap conf_in d) ∙ e in omega arith) (out q y)))
      (λ n. (n, rest q n)) (cases_Bool (closing q))

  regular_stays : (q c : ℕ) → phases q ≡ Regular c → (closing q ≡ false) × (P.phase q ≡ Regular c)
  regular_stays q c e = ⊎_elim
      (λ y. absurd (⊎_elim (λ d. let clash : Down ≡ Regular c = sym d ∙ e in cc) (λ d. let clash : Alone ≡ Regular c = sym d ∙ e in cc) (out q y)))
      (λ n. (n, sym (rest q n) ∙ e)) (cases_Bool (closing q))

  apart_stays : (q c : ℕ) (set : List ℕ) → phases q ≡ Transitional c set → (closing q ≡ false) × (P.phase q ≡ Transitional c set)
  apart_stays q c set e = ⊎_elim
      (λ y. absurd (⊎_elim (λ d. let clash : Down ≡ Transitional c set = sym d ∙ e in cc) (λ d. let clash : Alone ≡ Transitional c set = sym d ∙ e in cc) (out q y)))
      (λ n. (n, sym (rest q n) ∙ e)) (cases_Bool (closing q))

  unchanged : (q c : ℕ) → closing q ≡ false → after.stay q c ≡ P.stay q c
  unchanged q c n = cond-false (test q c) (going (P.stay q c) way) (P.stay q c) (and_left (closing q) ((c == conf_in (P.phase q)) && not (c == 0)) n)

  ended_kept : (time q c : ℕ) → EndedBefore time (P.stay q c).way → EndedBefore time (after.stay q c).way
  ended_kept time = at_stay (λ q c s. EndedBefore time (P.stay q c).way → EndedBefore time s.way)
      (λ q c a b pos e. absurd (subst (EndedBefore time) (h.present q c b pos) e)) (λ q c n e. e)

  carried : (time q c : ℕ) (set left : List ℕ) → (has set q ≡ true) ⊎ (has left q ≡ true) ⊎ EndedBefore time (P.stay q c).way →
      (has set q ≡ true) ⊎ (has left q ≡ true) ⊎ EndedBefore time (after.stay q c).way
  carried time q c set left (inl a) = inl a
  carried time q c set left (inr (inl b)) = inr (inl b)
  carried time q c set left (inr (inr e)) = inr (inr (ended_kept time q c e))

  pub closed : Holds after
  closed = record {
    within = λ q. ⊎_elim
        (λ y. ⊎_elim (λ d. subst (λ z. z ≤ P.number) (sym (ap conf_in d)) (omega arith)) (λ d. subst (λ z. z ≤ P.number) (sym (ap conf_in d)) (omega arith)) (out q y))
        (λ n. subst (λ z. conf_in z ≤ P.number) (sym (rest q n)) (h.within q)) (cases_Bool (closing q));
    regular_from_one = λ q c e. h.regular_from_one q c (regular_stays q c e).1;
    apart_from_one = λ q c set e. h.apart_from_one q c set (apart_stays q c set e).1;
    here = λ q c e. parting_kept q c ∙ h.here q c (regular_stays q c e).1;
    counted = λ q c e. counts_rest q (regular_stays q c e).0 ∙ h.counted q c (regular_stays q c e).1 ∙ ap length (sym (regular_kept q c));
    apart = λ q c set e. let old = h.apart q c set (apart_stays q c set e).1 in (old.0, parting_kept q c ∙ old.1, old.2);
    present = λ q c e pos. let o = stays_in q c e pos in ap (λ (s : Stay M). s.way) (unchanged q c o.0) ∙ h.present q c (sym (ap conf_in o.1) ∙ e) pos;
    gone = at_stay (λ q c s. s.way ≡ Here → conf_in (phases q) ≡ c) (λ q c a b pos e. absurd (not_here e))
        (λ q c n e.
        let old = h.gone q c e in
        ⊎_elim
        (λ y. ⊎_elim
        (λ (z : c ≡ 0). ⊎_elim (λ d. ap conf_in d ∙ sym z) (λ d. ap conf_in d ∙ sym z) (out q y))
        (λ (pos : c ≡ 0 → ⊥). absurd (let yes' : test q c ≡ true = and_from (closing q) ((c == conf_in (P.phase q)) && not (c == 0)) y (and_from (c == conf_in (P.phase q)) (not (c == 0)) (eq-eqb c (conf_in (P.phase q)) (sym old)) (not_from_false (c == 0) (ne_eqb c 0 pos))) in let clash : true ≡ false = sym yes' ∙ n in cc))
        (cases_eq c 0))
        (λ m. ap conf_in (rest q m) ∙ old) (cases_Bool (closing q)));
    never = λ q c lt. at_stay (λ q c s. P.number < c → s.way ≡ Never)
        (λ q c a b pos lt. absurd (let w = h.within q in omega arith)) (λ q c n. h.never q c) q c lt;
    nowhere = λ q. at_stay (λ q c s. c ≡ 0 → s.way ≡ Never) (λ q c a b pos z. absurd (omega arith))
        (λ q c n z. subst (λ x. (P.stay q x).way ≡ Never) (sym z) (h.nowhere q)) q 0 refl;
    there = at_stay (λ q c s. has (P.conf c).members q ≡ true → s.way ≡ Never → ⊥) (λ q c a b pos m e. not_never e) (λ q c n. h.there q c);
    told = at_stay (λ q c s. was_there s.way ≡ true → s.members ≡ (P.conf c).members)
        (λ q c a b pos w. h.told q c (ap was_there (h.present q c b pos))) (λ q c n. h.told q c);
    member = at_stay (λ q c s. was_there s.way ≡ true → has (P.conf c).members q ≡ true)
        (λ q c a b pos w. h.member q c (ap was_there (h.present q c b pos))) (λ q c n. h.member q c);
    absent = at_stay (λ q c s. s.way ≡ Never → (s.regular ≡ []) × (s.parting ≡ None)) (λ q c a b pos e. absurd (not_never e)) (λ q c n. h.absent q c);
    short = at_stay (λ q c s. length s.regular ≤ length (P.conf c).ordered) (λ q c a b pos. h.short q c) (λ q c n. h.short q c);
    in_order = at_stay (λ q c s. s.regular ≡ deliveries_at (P.conf c) (above_up_to 0 (length s.regular))) (λ q c a b pos. h.in_order q c) (λ q c n. h.in_order q c);
    received = λ q c place. at_stay (λ q c s. 0 < place → place ≤ length s.regular → all_received (P.conf c) place ≡ true)
        (λ q c a b pos. h.received q c place) (λ q c n. h.received q c place) q c;
    together = λ p q c t e m.
        let both = h.together p q c t (sym (parting_kept p c) ∙ e) m in
        (parting_kept q c ∙ both.0, ap length (regular_kept q c) ∙ both.1 ∙ ap length (sym (regular_kept p c)));
    same_list = λ q c t. at_stay (λ q c s. s.parting ≡ Some t → t.later ≡ deliveries_at (P.conf c) (transitional_places (P.conf c) t.set (length s.regular)))
        (λ q c a b pos. h.same_list q c t) (λ q c n. h.same_list q c t) q c;
    own = λ q c t e. h.own q c t (sym (parting_kept q c) ∙ e);
    with_all = λ p q c t time set left. at_stay (λ p c s. s.parting ≡ Some t → s.way ≡ WentOn time set left → has t.set q ≡ true →
        (has set q ≡ true) ⊎ (has left q ≡ true) ⊎ EndedBefore time (after.stay q c).way)
        (λ p c a b pos e w m. carried time q c set left (leaves p q c t time set left a b pos e w m))
        (λ p c n e w m. carried time q c set left (h.with_all p q c t time set left e w m)) p c;
    went_on = λ q c time set left. at_stay (λ q c s. s.way ≡ WentOn time set left → s.parting ≡ None → ⊥)
        (λ q c a b pos. partings q c time set left a b pos) (λ q c n. h.went_on q c time set left) q c;
    bounded = h.bounded;
    earlier = at_stay (λ q c s. EndsBy (suc P.time) s.way) (λ q c a b pos. ends) (λ q c n. EndsBy-more P.time (P.stay q c).way (h.earlier q c));
  }
