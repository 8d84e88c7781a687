-- The invariant stays when a new configuration begins.
use Rattle.std.proofs.Common.{◌≡◌, ℕ, zero, suc, ◌<◌, ◌≤◌, ◌⊎◌, Bool, true, false, ◌&&◌, List, [], length, Some, None, refl, sym, ap, subst, subst₂, ◌∙◌, arith, eq-eqb, ⊎_elim, if◌then◌else◌}
use Rattle.std.specs.Prelude.{◌==◌}
use Rattle.std.proofs.lemmas.Bool.{and_from, cases_Bool, cases_eq, cond-true, cond-false, and_left, and_right, ne_eqb}
use Rattle.cg_base.specs.Sets.{has}
use Rattle.cg_base.specs.Lists.{above_up_to}
use Rattle.cg_group.specs.declared.phase.Phase.{Phase}
use Rattle.cg_group.specs.declared.phase.Phase.TheVariants.{Regular, Transitional}
use Rattle.cg_group.specs.State.{Configuration, has_received}
use Rattle.cg_group.specs.Ready.{all_received}
use Rattle.cg_group.specs.Events.{deliveries_at, transitional_places}
use Rattle.cg_group.specs.History.{Parting, Never, Here, WentOn, Stay, fresh, was_there}
use Rattle.cg_group.specs.Synchrony.{EndedBefore}
use Rattle.cg_group.proofs.Picture.{Picture, Holds, EndsBy, touched, conf_in}
use Rattle.cg_group.specs.LookupLaws.{put}

module _ {M : Type 0} (P : Picture M) (h : Holds P) (set : List ℕ)
    (out : (q : ℕ) → has set q ≡ true → conf_in (P.phase q) ≡ 0) where
  abbrev k : ℕ
  k = suc P.number

  abbrev new : Configuration M
  new = record { members = set; ordered = []; received = [] }

  abbrev test : ℕ → ℕ → Bool
  test q c = has set q && (c == k)

  abbrev after : Picture M
  after = record {
    phase = λ q. if has set q then Regular k else P.phase q;
    count = λ q. if has set q then 0 else P.count q;
    conf = put P.conf k new;
    number = k;
    stay = touched test (λ q s. fresh set) P.stay;
    time = P.time;
  }

  conf_new : after.conf k ≡ new
  conf_new = cond-true (k == k) new (P.conf k) (eq-eqb k k refl)

  conf_else : (c : ℕ) → (c ≡ k → ⊥) → after.conf c ≡ P.conf c
  conf_else c ne = cond-false (c == k) new (P.conf c) (ne_eqb c k ne)

  stay_new : (q : ℕ) → has set q ≡ true → after.stay q k ≡ fresh set
  stay_new q m = cond-true (test q k) (fresh set) (P.stay q k) (and_from (has set q) (k == k) m (eq-eqb k k refl))

  stay_out : (q c : ℕ) → has set q ≡ false → after.stay q c ≡ P.stay q c
  stay_out q c n = cond-false (test q c) (fresh set) (P.stay q c) (and_left (has set q) (c == k) n)

  stay_else : (q c : ℕ) → (c ≡ k → ⊥) → after.stay q c ≡ P.stay q c
  stay_else q c ne = cond-false (test q c) (fresh set) (P.stay q c) (and_right (has set q) (c == k) (ne_eqb c k ne))

  before_new : (q : ℕ) → (P.stay q k).way ≡ Never
  before_new q = h.never q k (omega arith)

  -- a fact of each stay and its configuration: of a new one, of one that never is, and of the others
  at_stay : (R : ℕ → ℕ → Stay M → Configuration M → Type 0) → ((q : ℕ) → has set q ≡ true → R q k (fresh set) new) →
      ((q : ℕ) → has set q ≡ false → R q k (P.stay q k) new) →
      ((q c : ℕ) → (c ≡ k → ⊥) → R q c (P.stay q c) (P.conf c)) → (q c : ℕ) → R q c (after.stay q c) (after.conf c)
  at_stay R begun none others q c = ⊎_elim
      (λ same. subst (λ z. R q z (after.stay q z) (after.conf z)) (sym same)
      (⊎_elim
      (λ m. subst₂ (R q k) (sym (stay_new q m)) (sym conf_new) (begun q m))
      (λ n. subst₂ (R q k) (sym (stay_out q k n)) (sym conf_new) (none q n)) (cases_Bool (has set q))))
      (λ ne. subst₂ (R q c) (sym (stay_else q c ne)) (sym (conf_else c ne)) (others q c ne)) (cases_eq c k)

  at_phase : (R : ℕ → Phase → ℕ → Type 0) → ((q : ℕ) → has set q ≡ true → R q (Regular k) 0) → ((q : ℕ) → has set q ≡ false → R q (P.phase q) (P.count q)) →
      (q : ℕ) → R q (after.phase q) (after.count q)
  at_phase R ins outs q = ⊎_elim
      (λ m. subst₂ (R q) (sym (cond-true (has set q) (Regular k) (P.phase q) m)) (sym (cond-true (has set q) 0 (P.count q) m)) (ins q m))
      (λ n. subst₂ (R q) (sym (cond-false (has set q) (Regular k) (P.phase q) n)) (sym (cond-false (has set q) 0 (P.count q) n)) (outs q n)) (cases_Bool (has set q))

  -- no stay in the new configuration has a message or a parting
  bare : (q : ℕ) → ((after.stay q k).regular ≡ []) × ((after.stay q k).parting ≡ None)
  bare q = ⊎_elim
      (λ m. (ap (λ (s : Stay M). s.regular) (stay_new q m), ap (λ (s : Stay M). s.parting) (stay_new q m)))
      (λ n. let a = h.absent q k (before_new q) in (ap (λ (s : Stay M). s.regular) (stay_out q k n) ∙ a.0, ap (λ (s : Stay M). s.parting) (stay_out q k n) ∙ a.1)) (cases_Bool (has set q))

  -- a parting is in another configuration
  not_new : (q c : ℕ) (t : Parting M) → (after.stay q c).parting ≡ Some t → c ≡ k → ⊥
  not_new q c t e same =
      let clash : None ≡ Some t = sym (bare q).1 ∙ subst (λ z. (after.stay q z).parting ≡ Some t) same e in cc

  nothing : (q place : ℕ) → has_received new q place ≡ true → place ≤ 0
  unfolding has_received
  nothing q zero e = omega arith
  nothing q (suc place) e = absurd (let clash : false ≡ true = e in cc)

  pub opened : Holds after
  opened = record {
    within = at_phase (λ q x n. conf_in x ≤ k) (λ q m. omega arith) (λ q n. let w = h.within q in omega arith);
    regular_from_one = λ q c. at_phase (λ q x n. x ≡ Regular c → 0 < c) (λ q m e. let ck : k ≡ c = cc in omega arith) (λ q n. h.regular_from_one q c) q;
    apart_from_one = λ q c other. at_phase (λ q x n. x ≡ Transitional c other → 0 < c) (λ q m e. absurd cc) (λ q n. h.apart_from_one q c other) q;
    here = λ q c. at_phase (λ q x n. x ≡ Regular c → (after.stay q c).parting ≡ None)
        (λ q m e. let ck : k ≡ c = cc in subst (λ z. (after.stay q z).parting ≡ None) ck (bare q).1)
        (λ q n e. ap (λ (s : Stay M). s.parting) (stay_out q c n) ∙ h.here q c e) q;
    counted = λ q c. at_phase (λ q x n. x ≡ Regular c → n ≡ length (after.stay q c).regular)
        (λ q m e. let ck : k ≡ c = cc in subst (λ z. 0 ≡ length (after.stay q z).regular) ck (ap length (sym (bare q).0)))
        (λ q n e. h.counted q c e ∙ ap (λ (s : Stay M). length s.regular) (sym (stay_out q c n))) q;
    apart = λ q c other. at_phase (λ q x n. x ≡ Transitional c other → (t : Parting M) × ((after.stay q c).parting ≡ Some t) × (t.set ≡ other))
        (λ q m e. absurd cc)
        (λ q n e. let old = h.apart q c other e in (old.0, ap (λ (s : Stay M). s.parting) (stay_out q c n) ∙ old.1, old.2)) q;
    present = λ q c. at_phase (λ q x n. conf_in x ≡ c → 0 < c → (after.stay q c).way ≡ Here)
        (λ q m e pos. subst (λ z. (after.stay q z).way ≡ Here) e (ap (λ (s : Stay M). s.way) (stay_new q m)))
        (λ q n e pos. ap (λ (s : Stay M). s.way) (stay_out q c n) ∙ h.present q c e pos) q;
    gone = λ q c. at_phase (λ q x n. (after.stay q c).way ≡ Here → conf_in x ≡ c)
        (λ q m e. ⊎_elim (λ same. sym same)
        (λ ne.
        let old : (P.stay q c).way ≡ Here = sym (ap (λ (s : Stay M). s.way) (stay_else q c ne)) ∙ e in
        let z : c ≡ 0 = sym (h.gone q c old) ∙ out q m in
        let clash : Here ≡ Never = sym (subst (λ x. (P.stay q x).way ≡ Here) z old) ∙ h.nowhere q in
        absurd cc) (cases_eq c k))
        (λ q n e. h.gone q c (sym (ap (λ (s : Stay M). s.way) (stay_out q c n)) ∙ e)) q;
    never = λ q c lt. ap (λ (s : Stay M). s.way) (stay_else q c (λ same. omega arith)) ∙ h.never q c (omega arith);
    nowhere = λ q. ap (λ (s : Stay M). s.way) (stay_else q 0 (λ same. omega arith)) ∙ h.nowhere q;
    there = at_stay (λ q c s C. has C.members q ≡ true → s.way ≡ Never → ⊥) (λ q m a e. cc) (λ q n a e. let clash : false ≡ true = sym n ∙ a in cc) (λ q c ne. h.there q c);
    told = at_stay (λ q c s C. was_there s.way ≡ true → s.members ≡ C.members) (λ q m w. refl)
        (λ q n w. let clash : false ≡ true = sym (ap was_there (before_new q)) ∙ w in absurd cc) (λ q c ne. h.told q c);
    member = at_stay (λ q c s C. was_there s.way ≡ true → has C.members q ≡ true) (λ q m w. m)
        (λ q n w. let clash : false ≡ true = sym (ap was_there (before_new q)) ∙ w in absurd cc) (λ q c ne. h.member q c);
    absent = at_stay (λ q c s C. s.way ≡ Never → (s.regular ≡ []) × (s.parting ≡ None)) (λ q m e. (refl, refl)) (λ q n. h.absent q k) (λ q c ne. h.absent q c);
    short = at_stay (λ q c s C. length s.regular ≤ length C.ordered) (λ q m. omega arith)
        (λ q n. let a = ap length (h.absent q k (before_new q)).0 in omega arith) (λ q c ne. h.short q c);
    in_order = at_stay (λ q c s C. s.regular ≡ deliveries_at C (above_up_to 0 (length s.regular))) (λ q m. refl)
        (λ q n. let a = (h.absent q k (before_new q)).0 in a ∙ ap (λ z. deliveries_at new (above_up_to 0 (length z))) (sym a)) (λ q c ne. h.in_order q c);
    received = λ q c place. at_stay (λ q c s C. 0 < place → place ≤ length s.regular → all_received C place ≡ true) (λ q m pos le. absurd (omega arith))
        (λ q n pos le. absurd (let a = ap length (h.absent q k (before_new q)).0 in omega arith)) (λ q c ne. h.received q c place) q c;
    together = λ p q c t e m.
        let ne : (c ≡ k → ⊥) = not_new p c t e in
        let both = h.together p q c t (sym (ap (λ (s : Stay M). s.parting) (stay_else p c ne)) ∙ e) m in (
          ap (λ (s : Stay M). s.parting) (stay_else q c ne) ∙ both.0,
          ap (λ (s : Stay M). length s.regular) (stay_else q c ne) ∙ both.1 ∙ sym (ap (λ (s : Stay M). length s.regular) (stay_else p c ne)),
        );
    same_list = λ q c t. at_stay (λ q c s C. s.parting ≡ Some t → t.later ≡ deliveries_at C (transitional_places C t.set (length s.regular))) (λ q m e. absurd cc)
        (λ q n e. let clash : None ≡ Some t = sym (h.absent q k (before_new q)).1 ∙ e in absurd cc) (λ q c ne. h.same_list q c t) q c;
    own = λ q c t e. let ne : (c ≡ k → ⊥) = not_new q c t e in h.own q c t (sym (ap (λ (s : Stay M). s.parting) (stay_else q c ne)) ∙ e);
    with_all = λ p q c t time other left e w m.
        let ne : (c ≡ k → ⊥) = not_new p c t e in
        subst (λ (s : Stay M). (has other q ≡ true) ⊎ (has left q ≡ true) ⊎ EndedBefore time s.way) (sym (stay_else q c ne))
        (h.with_all p q c t time other left (sym (ap (λ (s : Stay M). s.parting) (stay_else p c ne)) ∙ e) (sym (ap (λ (s : Stay M). s.way) (stay_else p c ne)) ∙ w) m);
    went_on = λ q c time other left. at_stay (λ q c s C. s.way ≡ WentOn time other left → s.parting ≡ None → ⊥) (λ q m w e. cc)
        (λ q n w e. let clash : Never ≡ WentOn time other left = sym (before_new q) ∙ w in cc) (λ q c ne. h.went_on q c time other left) q c;
    bounded = λ q c place. ⊎_elim
        (λ same. subst (λ z. has_received (after.conf z) q place ≡ true → place ≤ length (after.conf z).ordered) (sym same)
        (subst (λ (C : Configuration M). has_received C q place ≡ true → place ≤ length C.ordered) (sym conf_new) (nothing q place)))
        (λ ne. subst (λ (C : Configuration M). has_received C q place ≡ true → place ≤ length C.ordered) (sym (conf_else c ne)) (h.bounded q c place)) (cases_eq c k);
    earlier = at_stay (λ q c s C. EndsBy P.time s.way) (λ q m. tt) (λ q n. h.earlier q k) (λ q c ne. h.earlier q c);
  }
