-- The invariant stays when a configuration grows.
use Rattle.std.proofs.Common.{◌≡◌, ℕ, ◌<◌, ◌≤◌, true, length, Some, None, sym, ap, subst, ◌∙◌, arith, eqb-true, length-append}
use Rattle.std.specs.Prelude.{◌==◌}
use Rattle.std.proofs.lemmas.Bool.{cond_both}
use Rattle.cg_base.specs.Sets.{has}
use Rattle.cg_base.specs.Lists.{above_up_to}
use Rattle.cg_group.specs.declared.phase.Phase.TheVariants.{Regular}
use Rattle.cg_group.specs.State.{Configuration, has_received}
use Rattle.cg_group.specs.Ready.{all_received}
use Rattle.cg_group.specs.Events.{deliveries_at, transitional_places}
use Rattle.cg_group.specs.History.{Parting, Never, was_there}
use Rattle.cg_base.specs.EachLaws.{Each-weaker, Each-above}
use Rattle.cg_group.specs.PlaceLaws.{deliveries_at-more, transitional_places-more, Each-transitional, all_received-kept}
use Rattle.cg_group.proofs.Picture.{Picture, Holds}
use Rattle.cg_group.specs.GrownLaws.{Grows}
use Rattle.cg_group.specs.LookupLaws.{put}

module _ {M : Type 0} (P : Picture M) (h : Holds P) (p k : ℕ) (D : Configuration M) (regular : P.phase p ≡ Regular k) (g : Grows p (P.conf k) D) where
  -- what holds of the configuration of a number holds of it when it has grown
  at_conf : (R : ℕ → Configuration M → Type 0) → R k D → ((c : ℕ) → R c (P.conf c)) → (c : ℕ) → R c (put P.conf k D c)
  at_conf R here rest c =
      cond_both (c == k) D (P.conf c) (R c) (λ same. subst (λ z. R z D) (sym (eqb-true c k same)) here) (λ other. rest c)

  long : length (P.conf k).ordered ≤ length D.ordered
  long = let e = ap length g.ordered ∙ length-append (P.conf k).ordered g.rest in omega arith

  -- the member that did it hasn't parted
  not_parted : (q : ℕ) (t : Parting M) → (P.stay q k).parting ≡ Some t → (r : ℕ) → has t.set r ≡ true → r ≡ p → ⊥
  not_parted q t e r m same =
      let both = h.together q r k t e m in
      let none : (P.stay r k).parting ≡ None = subst (λ z. (P.stay z k).parting ≡ None) (sym same) (h.here p k regular) in
      let clash : Some t ≡ None = sym both.0 ∙ none in
      cc

  pub grown : Holds (record P { conf = put P.conf k D })
  grown = record {
    within = h.within;
    regular_from_one = h.regular_from_one;
    apart_from_one = h.apart_from_one;
    here = h.here;
    counted = h.counted;
    apart = h.apart;
    present = h.present;
    gone = h.gone;
    never = h.never;
    nowhere = h.nowhere;
    there = λ q. at_conf (λ c C. has C.members q ≡ true → (P.stay q c).way ≡ Never → ⊥)
        (λ m. h.there q k (subst (λ ms. has ms q ≡ true) g.members m)) (h.there q);
    told = λ q. at_conf (λ c C. was_there (P.stay q c).way ≡ true → (P.stay q c).members ≡ C.members)
        (λ w. h.told q k w ∙ sym g.members) (h.told q);
    member = λ q. at_conf (λ c C. was_there (P.stay q c).way ≡ true → has C.members q ≡ true)
        (λ w. subst (λ ms. has ms q ≡ true) (sym g.members) (h.member q k w)) (h.member q);
    absent = h.absent;
    short = λ q. at_conf (λ c C. length (P.stay q c).regular ≤ length C.ordered)
        (let le = h.short q k in let l = long in omega arith) (h.short q);
    in_order = λ q. at_conf (λ c C. (P.stay q c).regular ≡ deliveries_at C (above_up_to 0 (length (P.stay q c).regular)))
        (let le = h.short q k in
        h.in_order q k ∙ sym (deliveries_at-more (P.conf k) D g.rest g.ordered (above_up_to 0 (length (P.stay q k).regular))
        (Each-weaker (λ place. (0 < place) × (place ≤ length (P.stay q k).regular)) (λ place. place ≤ length (P.conf k).ordered)
        (λ place b. omega arith) (above_up_to 0 (length (P.stay q k).regular)) (Each-above 0 (length (P.stay q k).regular)))))
        (h.in_order q);
    received = λ q c place. at_conf (λ c C. 0 < place → place ≤ length (P.stay q c).regular → all_received C place ≡ true)
        (λ pos le. all_received-kept (P.conf k) D g.members g.kept place (h.received q k place pos le)) (λ c. h.received q c place) c;
    together = h.together;
    same_list = λ q c t. at_conf (λ c C. (P.stay q c).parting ≡ Some t → t.later ≡ deliveries_at C (transitional_places C t.set (length (P.stay q c).regular)))
        (λ e.
        let n = length (P.stay q k).regular in
        let places = transitional_places-more (P.conf k) D g.rest t.set n g.ordered (λ r place m. g.others r place (not_parted q t e r m)) (λ r place. h.bounded r k place) (h.short q k) in
        let same = deliveries_at-more (P.conf k) D g.rest g.ordered (transitional_places (P.conf k) t.set n)
        (Each-weaker (λ place. (n < place) × (place ≤ length (P.conf k).ordered)) (λ place. place ≤ length (P.conf k).ordered) (λ place b. b.1) (transitional_places (P.conf k) t.set n) (Each-transitional (P.conf k) t.set n)) in
        h.same_list q k t e ∙ sym (ap (deliveries_at D) places ∙ same))
        (λ c. h.same_list q c t) c;
    own = h.own;
    with_all = h.with_all;
    went_on = h.went_on;
    bounded = λ q c place. at_conf (λ c C. has_received C q place ≡ true → place ≤ length C.ordered) (g.bounded q place) (λ c. h.bounded q c place) c;
    earlier = h.earlier;
  }
