-- The invariant stays when a replica is handed the next places.
use Rattle.std.proofs.Common.{◌≡◌, ℕ, ◌+◌, ◌<◌, ◌≤◌, ◌⊎◌, Bool, true, ◌&&◌, List, [], ◌++◌, length, Some, None, refl, sym, ap, ap₂, subst, subst₂, ◌∙◌, arith, eqb-true, eq-eqb, length-append, ⊎_elim}
use Rattle.std.specs.Prelude.{◌==◌}
use Rattle.std.proofs.lemmas.Bool.{cond_both, and_parts, cases_eq, cases_lt, ne_eqb, cond-true, cond-false, and_left}
use Rattle.cg_base.specs.Sets.{has}
use Rattle.cg_base.specs.Lists.{above_up_to}
use Rattle.cg_group.specs.declared.delivery.Delivery.{Delivery}
use Rattle.cg_group.specs.declared.phase.Phase.TheVariants.{Regular}
use Rattle.cg_group.specs.Ready.{all_received}
use Rattle.cg_group.specs.Events.{deliveries_at, transitional_places}
use Rattle.cg_group.specs.History.{Parting, Never, Here, Stay, was_there}
use Rattle.cg_group.specs.Synchrony.{EndedBefore}
use Rattle.cg_group.specs.PlaceLaws.{deliveries_at-add}
use Rattle.cg_group.proofs.Picture.{Picture, Holds, EndsBy, handed_more, touched, conf_in}
use Rattle.cg_group.specs.LookupLaws.{put}

module _ {M : Type 0} (P : Picture M) (h : Holds P) (p k n : ℕ) (ms : List (Delivery M)) (regular : P.phase p ≡ Regular k)
    (many : length ms ≡ n) (fits : P.count p + n ≤ length (P.conf k).ordered)
    (are : ms ≡ deliveries_at (P.conf k) (above_up_to (P.count p) (P.count p + n)))
    (all : (place : ℕ) → P.count p < place → place ≤ P.count p + n → all_received (P.conf k) place ≡ true) where
  abbrev one : ℕ → ℕ → Bool
  one q c = (q == p) && (c == k)

  abbrev change : ℕ → Stay M → Stay M
  change q = handed_more ms

  abbrev after : Picture M
  after = record P { count = put P.count p (P.count p + n); stay = touched one change P.stay }

  at_stay : (R : ℕ → ℕ → Stay M → Type 0) → R p k (handed_more ms (P.stay p k)) → ((q c : ℕ) → R q c (P.stay q c)) → (q c : ℕ) → R q c (after.stay q c)
  at_stay R here rest q c =
      cond_both (one q c) (handed_more ms (P.stay q c)) (P.stay q c) (R q c)
      (λ yes. subst₂ (λ x y. R x y (handed_more ms (P.stay x y))) (sym (eqb-true q p (and_parts (q == p) (c == k) yes).0)) (sym (eqb-true c k (and_parts (q == p) (c == k) yes).1)) here)
      (λ no. rest q c)

  there_now : (P.stay p k).way ≡ Here
  there_now = h.present p k (ap conf_in regular) (h.regular_from_one p k regular)

  parting_kept : (q c : ℕ) → (after.stay q c).parting ≡ (P.stay q c).parting
  parting_kept = at_stay (λ q c s. s.parting ≡ (P.stay q c).parting) refl (λ q c. refl)

  way_kept : (q c : ℕ) → (after.stay q c).way ≡ (P.stay q c).way
  way_kept = at_stay (λ q c s. s.way ≡ (P.stay q c).way) refl (λ q c. refl)

  regular_kept : (q c : ℕ) (t : Parting M) → (P.stay q c).parting ≡ Some t → (after.stay q c).regular ≡ (P.stay q c).regular
  regular_kept q c t = at_stay (λ q c s. (P.stay q c).parting ≡ Some t → s.regular ≡ (P.stay q c).regular)
      (λ e. let clash : Some t ≡ None = sym e ∙ h.here p k regular in cc) (λ q c e. refl) q c

  longer : length ((P.stay p k).regular ++ ms) ≡ P.count p + n
  longer = let e = length-append (P.stay p k).regular ms in let c = h.counted p k regular in omega arith

  counted_there : after.count p ≡ length (after.stay p k).regular
  counted_there =
      let yes : one p k ≡ true = rw (eq-eqb p p refl, eq-eqb k k refl) refl in
      cond-true (p == p) (P.count p + n) (P.count p) (eq-eqb p p refl) ∙ sym longer
      ∙ sym (ap (λ (s : Stay M). length s.regular) (cond-true (one p k) (handed_more ms (P.stay p k)) (P.stay p k) yes))

  pub delivered : Holds after
  delivered = record {
    within = h.within;
    regular_from_one = h.regular_from_one;
    apart_from_one = h.apart_from_one;
    here = λ q c e. parting_kept q c ∙ h.here q c e;
    counted = λ q c e. ⊎_elim
        (λ same.
        let both : Regular c ≡ Regular k = sym e ∙ ap P.phase same ∙ regular in
        let ck : c ≡ k = cc in
        subst₂ (λ x y. after.count x ≡ length (after.stay x y).regular) (sym same) (sym ck) counted_there)
        (λ other.
        cond-false (q == p) (P.count p + n) (P.count q) (ne_eqb q p other) ∙ h.counted q c e
        ∙ sym (ap (λ (s : Stay M). length s.regular) (cond-false (one q c) (handed_more ms (P.stay q c)) (P.stay q c) (and_left (q == p) (c == k) (ne_eqb q p other)))))
        (cases_eq q p);
    apart = λ q c set e. let old = h.apart q c set e in (old.0, parting_kept q c ∙ old.1, old.2);
    present = λ q c e pos. way_kept q c ∙ h.present q c e pos;
    gone = λ q c e. h.gone q c (sym (way_kept q c) ∙ e);
    never = λ q c lt. way_kept q c ∙ h.never q c lt;
    nowhere = λ q. way_kept q 0 ∙ h.nowhere q;
    there = λ q c m e. h.there q c m (sym (way_kept q c) ∙ e);
    told = at_stay (λ q c s. was_there s.way ≡ true → s.members ≡ (P.conf c).members) (h.told p k) h.told;
    member = at_stay (λ q c s. was_there s.way ≡ true → has (P.conf c).members q ≡ true) (h.member p k) h.member;
    absent = at_stay (λ q c s. s.way ≡ Never → (s.regular ≡ []) × (s.parting ≡ None))
        (λ e. let clash : Never ≡ Here = sym e ∙ there_now in cc) h.absent;
    short = at_stay (λ q c s. length s.regular ≤ length (P.conf c).ordered) (let e = longer in omega arith) h.short;
    in_order = at_stay (λ q c s. s.regular ≡ deliveries_at (P.conf c) (above_up_to 0 (length s.regular)))
        (let old : (P.stay p k).regular ≡ deliveries_at (P.conf k) (above_up_to 0 (P.count p)) =
        h.in_order p k ∙ ap (λ z. deliveries_at (P.conf k) (above_up_to 0 z)) (sym (h.counted p k regular)) in
        ap₂ ◌++◌ old are ∙ sym (deliveries_at-add (P.conf k) 0 (P.count p) (P.count p + n) (omega arith) (omega arith))
        ∙ ap (λ z. deliveries_at (P.conf k) (above_up_to 0 z)) (sym longer))
        h.in_order;
    received = λ q c place. at_stay (λ q c s. 0 < place → place ≤ length s.regular → all_received (P.conf c) place ≡ true)
        (λ pos le. ⊎_elim
        (λ more. all place more (let e = longer in omega arith))
        (λ old. h.received p k place pos (let e = h.counted p k regular in omega arith))
        (cases_lt (P.count p) place))
        (λ q c. h.received q c place) q c;
    together = λ q r c t e m.
        let old = sym (parting_kept q c) ∙ e in
        let both = h.together q r c t old m in
        (parting_kept r c ∙ both.0, ap length (regular_kept r c t both.0) ∙ both.1 ∙ sym (ap length (regular_kept q c t old)));
    same_list = λ q c t e.
        let old = sym (parting_kept q c) ∙ e in
        h.same_list q c t old ∙ ap (λ z. deliveries_at (P.conf c) (transitional_places (P.conf c) t.set (length z))) (sym (regular_kept q c t old));
    own = λ q c t e. h.own q c t (sym (parting_kept q c) ∙ e);
    with_all = λ q r c t time set left e w m.
        subst (λ w. (has set r ≡ true) ⊎ (has left r ≡ true) ⊎ EndedBefore time w) (sym (way_kept r c))
        (h.with_all q r c t time set left (sym (parting_kept q c) ∙ e) (sym (way_kept q c) ∙ w) m);
    went_on = λ q c time set left w e. h.went_on q c time set left (sym (way_kept q c) ∙ w) (sym (parting_kept q c) ∙ e);
    bounded = h.bounded;
    earlier = λ q c. subst (EndsBy P.time) (sym (way_kept q c)) (h.earlier q c);
  }
