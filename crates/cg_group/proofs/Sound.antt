-- The law's invariant over a group with the diaries, and what keeps it in a group alone: a sent message, an order, a receipt.
use Rattle.std.proofs.Common.{◌≡◌, ℕ, suc, ◌<◌, List, [], ◌++◌, length, sym, ap, ap₂, subst, ◌∙◌, arith, ⊎_elim}
use Rattle.std.proofs.lemmas.Bool.{cases_eq}
use Rattle.cg_group.specs.declared.phase.Phase.{Phase}
use Rattle.cg_group.specs.declared.phase.Phase.TheVariants.{Down, Alone, Regular, Transitional}
use Rattle.cg_group.specs.State.{Configuration, GroupState, configuration, phase_of, delivered_to, unordered_of, regular_in}
use Rattle.cg_group.specs.History.{Diary, stay_in}
use Rattle.cg_group.specs.Synchrony.{Begins, ordered_from}
use Rattle.cg_group.proofs.Picture.{Picture, Holds, conf_in}
use Rattle.cg_group.proofs.Closing.{EndsBy-more}
use Rattle.cg_group.proofs.Diaries.{Booked}

-- a phase of a configuration is regular in it
pub regular_phase : (x : Phase) (c : ℕ) → regular_in x ≡ c → 0 < c → x ≡ Regular c
regular_phase Down c e pos = absurd (omega arith)
regular_phase Alone c e pos = absurd (omega arith)
regular_phase (Regular d) c e pos = ap Regular e
regular_phase (Transitional d set) c e pos = absurd (omega arith)

module _ {M : Type 0} where
  -- a group with the diaries as a picture
  abbrev pub picture : GroupState M → (ℕ → Diary M) → ℕ → Picture M
  picture g diary time = record {
    phase = phase_of g;
    count = delivered_to g;
    conf = configuration g;
    number = length g.configurations;
    stay = λ q c. stay_in (diary q) c;
    time = time;
  }

  -- pictures that show the same are one
  pub same_picture : (P Q : Picture M) → ((q : ℕ) → P.phase q ≡ Q.phase q) → ((q : ℕ) → P.count q ≡ Q.count q) → ((c : ℕ) → P.conf c ≡ Q.conf c) →
      P.number ≡ Q.number → ((q c : ℕ) → P.stay q c ≡ Q.stay q c) → P.time ≡ Q.time → P ≡ Q
  same_picture P Q phases counts confs numbers stays times = λ i. record {
    phase = λ q. phases q i;
    count = λ q. counts q i;
    conf = λ c. confs c i;
    number = numbers i;
    stay = λ q c. stays q c i;
    time = times i;
  }

  -- what was sent in each configuration, against what was ordered there and what still waits
  pub record Sends (phase : ℕ → Phase) (waiting : ℕ → List M) (conf : ℕ → Configuration M) (number : ℕ) (sent : ℕ → ℕ → List M) : Type 0 where
    pub begins : (q c : ℕ) → Begins (ordered_from q (conf c).ordered) (sent c q)
    pub waits : (q c : ℕ) → phase q ≡ Regular c → ordered_from q (conf c).ordered ++ waiting q ≡ sent c q
    pub unsent : (q c : ℕ) → number < c → sent c q ≡ []
    pub level : (c : ℕ) → length (conf c).received ≡ length (conf c).ordered

  -- the whole invariant
  pub record Sound (g : GroupState M) (diary : ℕ → Diary M) (sent : ℕ → ℕ → List M) (time : ℕ) : Type 0 where
    pub holds : Holds (picture g diary time)
    pub books : (q : ℕ) → Booked (conf_in (phase_of g q)) (diary q)
    pub sends : Sends (phase_of g) (unordered_of g) (configuration g) (length g.configurations) sent

  -- a call that hands out nothing
  pub ticked : (P : Picture M) → Holds P → Holds (record P { time = suc P.time })
  ticked P h = record {
    within = h.within;
    regular_from_one = h.regular_from_one;
    apart_from_one = h.apart_from_one;
    here = h.here;
    counted = h.counted;
    apart = h.apart;
    present = h.present;
    gone = h.gone;
    never = h.never;
    nowhere = h.nowhere;
    there = h.there;
    told = h.told;
    member = h.member;
    absent = h.absent;
    short = h.short;
    in_order = h.in_order;
    received = h.received;
    together = h.together;
    same_list = h.same_list;
    own = h.own;
    with_all = h.with_all;
    went_on = h.went_on;
    bounded = h.bounded;
    earlier = λ q c. EndsBy-more P.time (P.stay q c).way (h.earlier q c);
  }

  pub Sound-ticked : (g : GroupState M) (diary : ℕ → Diary M) (sent : ℕ → ℕ → List M) (time : ℕ) → Sound g diary sent time → Sound g diary sent (suc time)
  Sound-ticked g diary sent time s = record { holds = ticked (picture g diary time) s.holds; books = s.books; sends = s.sends }

  -- what was sent and ordered, when one configuration has grown by what one member did
  pub Sends-grown : (phase : ℕ → Phase) (waiting waiting' : ℕ → List M) (conf conf' : ℕ → Configuration M) (number : ℕ) (sent : ℕ → ℕ → List M) (p k : ℕ) →
      Sends phase waiting conf number sent → phase p ≡ Regular k → ((c : ℕ) → (c ≡ k → ⊥) → conf' c ≡ conf c) →
      ((q : ℕ) → (q ≡ p → ⊥) → waiting' q ≡ waiting q) →
      ((q : ℕ) → (q ≡ p → ⊥) → ordered_from q (conf' k).ordered ≡ ordered_from q (conf k).ordered) →
      ordered_from p (conf' k).ordered ++ waiting' p ≡ ordered_from p (conf k).ordered ++ waiting p →
      length (conf' k).received ≡ length (conf' k).ordered → Sends phase waiting' conf' number sent
  Sends-grown phase waiting waiting' conf conf' number sent p k s regular confs waits others mine levels = record {
    begins = λ q c. ⊎_elim
        (λ ck. subst (λ z. Begins (ordered_from q (conf' z).ordered) (sent z q)) (sym ck)
        (⊎_elim
        (λ qp. subst (λ z. Begins (ordered_from z (conf' k).ordered) (sent k z)) (sym qp) (waiting' p, mine ∙ s.waits p k regular))
        (λ ne. subst (λ z. Begins z (sent k q)) (sym (others q ne)) (s.begins q k)) (cases_eq q p)))
        (λ ne. subst (λ (z : Configuration M). Begins (ordered_from q z.ordered) (sent c q)) (sym (confs c ne)) (s.begins q c)) (cases_eq c k);
    waits = λ q c e. ⊎_elim
        (λ qp.
        let both : Regular c ≡ Regular k = sym e ∙ ap phase qp ∙ regular in
        let ck : c ≡ k = cc in
        subst (λ z. ordered_from z (conf' c).ordered ++ waiting' z ≡ sent c z) (sym qp)
        (subst (λ z. ordered_from p (conf' z).ordered ++ waiting' p ≡ sent z p) (sym ck) (mine ∙ s.waits p k regular)))
        (λ ne. ⊎_elim
        (λ ck. subst (λ z. ordered_from q (conf' z).ordered ++ waiting' q ≡ sent z q) (sym ck)
        (ap₂ ◌++◌ (others q ne) (waits q ne) ∙ s.waits q k (e ∙ ap Regular ck)))
        (λ nc. ap₂ (λ (C : Configuration M) w. ordered_from q C.ordered ++ w) (confs c nc) (waits q ne) ∙ s.waits q c e) (cases_eq c k))
        (cases_eq q p);
    unsent = s.unsent;
    level = λ c. ⊎_elim (λ ck. subst (λ z. length (conf' z).received ≡ length (conf' z).ordered) (sym ck) levels)
        (λ ne. subst (λ (C : Configuration M). length C.received ≡ length C.ordered) (sym (confs c ne)) (s.level c)) (cases_eq c k);
  }
