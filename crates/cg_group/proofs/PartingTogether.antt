-- The invariant stays when replicas leave their configuration together.
use Rattle.std.proofs.Common.{◌≡◌, ℕ, ◌<◌, ◌≤◌, ◌⊎◌, Bool, true, false, ◌&&◌, List, [], ◌++◌, length, Some, None, refl, sym, ap, subst, ◌∙◌, arith, eqb-true, eq-eqb, length-append, ⊎_elim, if◌then◌else◌}
use Rattle.std.specs.Prelude.{◌==◌}
use Rattle.std.proofs.lemmas.Bool.{cond_both, and_parts, and_from, cases_Bool, cond-true, cond-false, and_left}
use Rattle.std.proofs.lemmas.Option.{same_Some}
use Rattle.cg_base.specs.Sets.{has}
use Rattle.cg_base.specs.Lists.{above_up_to}
use Rattle.cg_group.specs.declared.delivery.Delivery.{Delivery}
use Rattle.cg_group.specs.declared.phase.Phase.{Phase}
use Rattle.cg_group.specs.declared.phase.Phase.TheVariants.{Regular, Transitional}
use Rattle.cg_group.specs.Ready.{all_received}
use Rattle.cg_group.specs.Events.{deliveries_at, transitional_places}
use Rattle.cg_group.specs.History.{Parting, Never, Here, WentOn, Stay, was_there}
use Rattle.cg_group.specs.Synchrony.{EndedBefore}
use Rattle.cg_group.specs.PlaceLaws.{deliveries_at-add, length-deliveries_at}
use Rattle.cg_group.proofs.Picture.{Picture, Holds, EndsBy, handed_parting, touched, conf_in}

module _ {M : Type 0} (P : Picture M) (h : Holds P) (set : List ℕ) (k K : ℕ) (later : List (Delivery M))
    (regular : (q : ℕ) → has set q ≡ true → P.phase q ≡ Regular k)
    (below : (q : ℕ) → has set q ≡ true → P.count q ≤ K) (fits : K ≤ length (P.conf k).ordered)
    (all : (place : ℕ) → 0 < place → place ≤ K → all_received (P.conf k) place ≡ true)
    (are : later ≡ deliveries_at (P.conf k) (transitional_places (P.conf k) set K)) where
  abbrev part : ℕ → List (Delivery M)
  part q = deliveries_at (P.conf k) (above_up_to (P.count q) K)

  abbrev t : Parting M
  t = record { time = P.time; set = set; later = later }

  abbrev test : ℕ → ℕ → Bool
  test q c = has set q && (c == k)

  abbrev change : ℕ → Stay M → Stay M
  change q = handed_parting (part q) t

  abbrev after : Picture M
  after = record P { phase = λ q. if has set q then Transitional k set else P.phase q; stay = touched test change P.stay }

  at_phase : (R : ℕ → Phase → Type 0) → ((q : ℕ) → has set q ≡ true → R q (Transitional k set)) → ((q : ℕ) → has set q ≡ false → R q (P.phase q)) → (q : ℕ) → R q (after.phase q)
  at_phase R ins outs q = cond_both (has set q) (Transitional k set) (P.phase q) (R q) (ins q) (outs q)

  at_stay : (R : ℕ → ℕ → Stay M → Type 0) → ((q : ℕ) → has set q ≡ true → R q k (change q (P.stay q k))) →
      ((q c : ℕ) → test q c ≡ false → R q c (P.stay q c)) → (q c : ℕ) → R q c (after.stay q c)
  at_stay R here rest q c =
      cond_both (test q c) (change q (P.stay q c)) (P.stay q c) (R q c)
      (λ y. subst (λ y. R q y (change q (P.stay q y))) (sym (eqb-true c k (and_parts (has set q) (c == k) y).1)) (here q (and_parts (has set q) (c == k) y).0))
      (rest q c)

  stay_there : (q : ℕ) → has set q ≡ true → after.stay q k ≡ change q (P.stay q k)
  stay_there q m = cond-true (test q k) (change q (P.stay q k)) (P.stay q k) (and_from (has set q) (k == k) m (eq-eqb k k refl))

  stay_else : (q c : ℕ) → has set q ≡ false → after.stay q c ≡ P.stay q c
  stay_else q c n = cond-false (test q c) (change q (P.stay q c)) (P.stay q c) (and_left (has set q) (c == k) n)

  there_now : (q : ℕ) → has set q ≡ true → (P.stay q k).way ≡ Here
  there_now q m = h.present q k (ap conf_in (regular q m)) (h.regular_from_one q k (regular q m))

  way_kept : (q c : ℕ) → (after.stay q c).way ≡ (P.stay q c).way
  way_kept = at_stay (λ q c s. s.way ≡ (P.stay q c).way) (λ q m. refl) (λ q c n. refl)

  conf_kept : (q : ℕ) → conf_in (after.phase q) ≡ conf_in (P.phase q)
  conf_kept = at_phase (λ q x. conf_in x ≡ conf_in (P.phase q)) (λ q m. sym (ap conf_in (regular q m))) (λ q n. refl)

  longer : (q : ℕ) → has set q ≡ true → length ((P.stay q k).regular ++ part q) ≡ K
  longer q m =
      let e = length-append (P.stay q k).regular (part q) in
      let c = h.counted q k (regular q m) in
      let b = below q m in
      let l = length-deliveries_at (P.conf k) (P.count q) K b fits in
      omega arith

  -- a stay that had been parted from isn't one of those that are now
  not_now : (q c : ℕ) (u : Parting M) → (P.stay q c).parting ≡ Some u → test q c ≡ false
  not_now q c u e = ⊎_elim
      (λ y.
      let m = (and_parts (has set q) (c == k) y).0 in
      let ck = eqb-true c k (and_parts (has set q) (c == k) y).1 in
      let none : (P.stay q c).parting ≡ None = subst (λ z. (P.stay q z).parting ≡ None) (sym ck) (h.here q k (regular q m)) in
      let clash : Some u ≡ None = sym e ∙ none in
      cc)
      (λ n. n) (cases_Bool (test q c))

  unchanged : (q c : ℕ) → test q c ≡ false → after.stay q c ≡ P.stay q c
  unchanged q c n = cond-false (test q c) (change q (P.stay q c)) (P.stay q c) n

  regular_else : (q c : ℕ) → after.phase q ≡ Regular c → (has set q ≡ false) × (P.phase q ≡ Regular c)
  regular_else q c = at_phase (λ q x. x ≡ Regular c → (has set q ≡ false) × (P.phase q ≡ Regular c)) (λ q m e. cc) (λ q n e. (n, e)) q

  pub parted_together : Holds after
  parted_together = record {
    within = λ q. subst (λ z. z ≤ P.number) (sym (conf_kept q)) (h.within q);
    regular_from_one = λ q c e. h.regular_from_one q c (regular_else q c e).1;
    apart_from_one = λ q c other. at_phase (λ q x. x ≡ Transitional c other → 0 < c)
        (λ q m e. let ck : k ≡ c = cc in subst (λ z. 0 < z) ck (h.regular_from_one q k (regular q m)))
        (λ q n e. h.apart_from_one q c other e) q;
    here = λ q c e. let o = regular_else q c e in ap (λ (s : Stay M). s.parting) (stay_else q c o.0) ∙ h.here q c o.1;
    counted = λ q c e. let o = regular_else q c e in h.counted q c o.1 ∙ sym (ap (λ (s : Stay M). length s.regular) (stay_else q c o.0));
    apart = λ q c other. at_phase (λ q x. x ≡ Transitional c other → (u : Parting M) × ((after.stay q c).parting ≡ Some u) × (u.set ≡ other))
        (λ q m e.
        let ck : k ≡ c = cc in
        let so : set ≡ other = cc in
        (t, subst (λ z. (after.stay q z).parting ≡ Some t) ck (ap (λ (s : Stay M). s.parting) (stay_there q m)), so))
        (λ q n e. let old = h.apart q c other e in (old.0, ap (λ (s : Stay M). s.parting) (stay_else q c n) ∙ old.1, old.2)) q;
    present = λ q c e pos. way_kept q c ∙ h.present q c (sym (conf_kept q) ∙ e) pos;
    gone = λ q c e. conf_kept q ∙ h.gone q c (sym (way_kept q c) ∙ e);
    never = λ q c lt. way_kept q c ∙ h.never q c lt;
    nowhere = λ q. way_kept q 0 ∙ h.nowhere q;
    there = λ q c m e. h.there q c m (sym (way_kept q c) ∙ e);
    told = at_stay (λ q c s. was_there s.way ≡ true → s.members ≡ (P.conf c).members) (λ q m. h.told q k) (λ q c n. h.told q c);
    member = at_stay (λ q c s. was_there s.way ≡ true → has (P.conf c).members q ≡ true) (λ q m. h.member q k) (λ q c n. h.member q c);
    absent = at_stay (λ q c s. s.way ≡ Never → (s.regular ≡ []) × (s.parting ≡ None))
        (λ q m e. let clash : Never ≡ Here = sym e ∙ there_now q m in cc) (λ q c n. h.absent q c);
    short = at_stay (λ q c s. length s.regular ≤ length (P.conf c).ordered) (λ q m. let e = longer q m in omega arith) (λ q c n. h.short q c);
    in_order = at_stay (λ q c s. s.regular ≡ deliveries_at (P.conf c) (above_up_to 0 (length s.regular)))
        (λ q m.
        let old : (P.stay q k).regular ≡ deliveries_at (P.conf k) (above_up_to 0 (P.count q)) =
        h.in_order q k ∙ ap (λ z. deliveries_at (P.conf k) (above_up_to 0 z)) (sym (h.counted q k (regular q m))) in
        ap (λ z. z ++ part q) old ∙ sym (deliveries_at-add (P.conf k) 0 (P.count q) K (omega arith) (below q m))
        ∙ ap (λ z. deliveries_at (P.conf k) (above_up_to 0 z)) (sym (longer q m)))
        (λ q c n. h.in_order q c);
    received = λ q c place. at_stay (λ q c s. 0 < place → place ≤ length s.regular → all_received (P.conf c) place ≡ true)
        (λ q m pos le. all place pos (let e = longer q m in omega arith)) (λ q c n. h.received q c place) q c;
    together = λ p r c u e m.
        ⊎_elim
        (λ y.
        let mine = (and_parts (has set p) (c == k) y).0 in
        let ck = eqb-true c k (and_parts (has set p) (c == k) y).1 in
        let now : after.stay p c ≡ change p (P.stay p c) = cond-true (test p c) (change p (P.stay p c)) (P.stay p c) y in
        let same : t ≡ u = same_Some t u (sym (ap (λ (s : Stay M). s.parting) now) ∙ e) in
        let mr : has set r ≡ true = subst (λ (z : Parting M). has z.set r ≡ true) (sym same) m in
        let both : (y : ℕ) → y ≡ k → ((after.stay r y).parting ≡ Some t) × (length (after.stay r y).regular ≡ length (after.stay p y).regular) = λ y yk.
        subst (λ z. ((after.stay r z).parting ≡ Some t) × (length (after.stay r z).regular ≡ length (after.stay p z).regular)) (sym yk) (
          ap (λ (s : Stay M). s.parting) (stay_there r mr),
          ap (λ (s : Stay M). length s.regular) (stay_there r mr) ∙ longer r mr ∙ sym (ap (λ (s : Stay M). length s.regular) (stay_there p mine) ∙ longer p mine),
        ) in
        subst (λ (z : Parting M). ((after.stay r c).parting ≡ Some z) × (length (after.stay r c).regular ≡ length (after.stay p c).regular)) same (both c ck))
        (λ n.
        let old = sym (ap (λ (s : Stay M). s.parting) (unchanged p c n)) ∙ e in
        let both = h.together p r c u old m in
        let rn = not_now r c u both.0 in (
          ap (λ (s : Stay M). s.parting) (unchanged r c rn) ∙ both.0,
          ap (λ (s : Stay M). length s.regular) (unchanged r c rn) ∙ both.1 ∙ sym (ap (λ (s : Stay M). length s.regular) (unchanged p c n)),
        ))
        (cases_Bool (test p c));
    same_list = λ q c u. at_stay (λ q c s. s.parting ≡ Some u → u.later ≡ deliveries_at (P.conf c) (transitional_places (P.conf c) u.set (length s.regular)))
        (λ q m e.
        let same : t ≡ u = same_Some t u e in
        subst (λ (z : Parting M). z.later ≡ deliveries_at (P.conf k) (transitional_places (P.conf k) z.set (length ((P.stay q k).regular ++ part q)))) same
        (are ∙ ap (λ z. deliveries_at (P.conf k) (transitional_places (P.conf k) set z)) (sym (longer q m))))
        (λ q c n. h.same_list q c u) q c;
    own = λ q c u. at_stay (λ q c s. s.parting ≡ Some u → has u.set q ≡ true)
        (λ q m e. let same : t ≡ u = same_Some t u e in subst (λ (z : Parting M). has z.set q ≡ true) same m)
        (λ q c n. h.own q c u) q c;
    with_all = λ p r c u time other left. at_stay (λ p c s. s.parting ≡ Some u → s.way ≡ WentOn time other left → has u.set r ≡ true →
        (has other r ≡ true) ⊎ (has left r ≡ true) ⊎ EndedBefore time (after.stay r c).way)
        (λ q m e w. let clash : WentOn time other left ≡ Here = sym w ∙ there_now q m in cc)
        (λ q c n e w m. subst (λ w. (has other r ≡ true) ⊎ (has left r ≡ true) ⊎ EndedBefore time w) (sym (way_kept r c)) (h.with_all q r c u time other left e w m))
        p c;
    went_on = λ q c time other left. at_stay (λ q c s. s.way ≡ WentOn time other left → s.parting ≡ None → ⊥) (λ q m w e. cc) (λ q c n. h.went_on q c time other left) q c;
    bounded = h.bounded;
    earlier = λ q c. subst (EndsBy P.time) (sym (way_kept q c)) (h.earlier q c);
  }
