-- The law: each call keeps the invariant, and the invariant gives virtual synchrony.
use Rattle.std.proofs.Common.{◌≡◌, ℕ, zero, suc, ◌+◌, ◌-◌, ◌<◌, ◌≤◌, ◌⊎◌, Bool, true, false, not, List, [], ◌∷◌, ◌++◌, length, Option, Some, None, refl, sym, ap, subst, ◌∙◌, arith, eqb-true, inl, inr, ⊎_elim, filter, append-nil, is_some}
use Rattle.std.specs.Prelude.{◌==◌}
use Rattle.std.specs.List.{list_any}
use Rattle.std.specs.Option.{option_map_or}
use Rattle.std.proofs.lemmas.Bool.{cases_lt, cond-true, or_left, or_right, or_cases, cond_both}
use Rattle.cg_base.specs.Lists.{above_up_to, count_up, at_place, Each}
use Rattle.cg_base.specs.Sets.{has}
use Rattle.cg_group.specs.declared.delivery.Delivery.{Delivery}
use Rattle.cg_group.specs.declared.delivery.Delivery.TheVariants.{Message, Transitional as TransitionalIn, Regular as RegularIn}
use Rattle.cg_group.specs.declared.phase.Phase.TheVariants.{Down, Regular}
use Rattle.cg_group.specs.State.{Configuration, Sent, Standing, GroupState, no_group, no_configuration, standing_of, configuration, phase_of, home, has_received}
use Rattle.cg_group.specs.Events.{deliveries_at, delivery_at, transitional_places}
use Rattle.cg_group.specs.Refusals.{not_up, not_regular, no_such_place, already_received, earlier_missing, refuse, receive_refusal}
use Rattle.cg_group.specs.History.{Call, Add, Fall, SendFrom, OrderNext, ReceiveAt, GatherAll, DeliverNext, SplitOff, MergeInto, Parting, Way, Never, Here, WentDown, WentOn, Diary, History, stay_in, no_stay, diary_after, handed_out_by, MayCall, step, beginning, history_from, MayCallAll}
use Rattle.cg_group.specs.Synchrony.{IsVirtuallySynchronous, AlwaysSynchronous, IsDownThere, AscendsAbove, places_of, later_of}
use Rattle.cg_base.specs.EachLaws.{Each-weaker, Each-above}
use Rattle.cg_group.specs.PlaceLaws.{at_place-within, all_received-at, Each-transitional}
use Rattle.cg_group.proofs.Picture.{Picture, Holds, conf_in}
use Rattle.cg_group.specs.LookupLaws.{same_both}
use Rattle.cg_group.proofs.Diaries.{Booked}
use Rattle.cg_group.proofs.Sound.{Sound, picture, same_picture, Sound-ticked}
use Rattle.cg_group.proofs.Ordering.{order_sound, receive_sound, gather_sound, send_sound}
use Rattle.cg_group.proofs.Handing.{up_sound, down_sound, deliver_sound}
use Rattle.cg_group.proofs.Changing.{in_phase, split_sound, merge_sound}
use Rattle.cg_base.specs.MemberLaws.{list_any_in, has_count_up}
use Rattle.cg_base.specs.ListLaws.{at_place-nil}
use Rattle.cg_base.specs.OptionLaws.{first_none}

-- a place that exists isn't none
at_place-from_one : {X : Type 0} (xs : List X) (place : ℕ) → is_some (at_place xs place) ≡ true → 0 < place
at_place-from_one xs zero e = absurd (let clash : false ≡ true = e in cc)
at_place-from_one xs (suc n) e = omega arith

-- a place that exists is within the list
at_place-some : {X : Type 0} (xs : List X) (place : ℕ) → is_some (at_place xs place) ≡ true → place ≤ length xs
at_place-some xs zero e = omega arith
at_place-some [] (suc n) e = absurd (let clash : false ≡ true = e in cc)
at_place-some (x ∷ xs) (suc zero) e = omega arith
at_place-some (x ∷ xs) (suc (suc n)) e = let rest = at_place-some xs (suc n) e in omega arith

nothing_received : (M : Type 0) (q place : ℕ) → has_received {M = M} no_configuration q place ≡ true → place ≤ 0
unfolding has_received
nothing_received M q zero e = omega arith
nothing_received M q (suc place) e = absurd (let clash : false ≡ true = e in cc)

none_standing : (M : Type 0) (q : ℕ) → standing_of {M = M} no_group q ≡ None
unfolding standing_of
none_standing M q = refl

phase_none : (M : Type 0) (q : ℕ) → phase_of {M = M} no_group q ≡ Down
phase_none M q = ap (λ (o : Option (Standing M)). option_map_or (λ s. s.phase) o Down) (none_standing M q)

module _ {M : Type 0} where
  -- the invariant of a history
  abbrev SoundHistory : History M → Type 0
  SoundHistory r = Sound r.group r.diary r.sent r.time

  receivable : (g : GroupState M) (p place : ℕ) → receive_refusal g p place ≡ None → (0 < place) × (place ≤ length (home g p).ordered)
  unfolding receive_refusal
  receivable g p place e =
      let a = first_none (not_up g p) (not_regular g p ∷ no_such_place g p place ∷ already_received g p place ∷ earlier_missing g p place ∷ []) e in
      let b = first_none (not_regular g p) (no_such_place g p place ∷ already_received g p place ∷ earlier_missing g p place ∷ []) a.1 in
      let c = first_none (no_such_place g p place) (already_received g p place ∷ earlier_missing g p place ∷ []) b.1 in
      let some = (by_none (at_place (home g p).ordered place) c.0) in
      (at_place-from_one (home g p).ordered place some, at_place-some (home g p).ordered place some)
    where
      by_none : (o : Option (Sent M)) → refuse (not (is_some o)) (Rattle.cg_group.specs.declared.reason.Reason.TheVariants.NoSuchPlace place) ≡ None → is_some o ≡ true
      by_none None e = absurd cc
      by_none (Some s) e = refl

  stepped : (r : History M) (call : Call M) → SoundHistory r → MayCall r.group call → SoundHistory (step r call)
  unfolding step handed_out_by diary_after
  stepped r (Add p) s may = up_sound r.group r.diary r.sent r.time p s may
  stepped r (Fall p) s may = down_sound r.group r.diary r.sent r.time p s
  stepped r (SendFrom p m) s may = Sound-ticked _ _ _ _ (send_sound r.group r.diary r.sent r.time p m s)
  stepped r (OrderNext p) s may = Sound-ticked _ _ _ _ (order_sound r.group r.diary r.sent r.time p s)
  stepped r (ReceiveAt p place) s may = Sound-ticked _ _ _ _ (let ok = receivable r.group p place may in receive_sound r.group r.diary r.sent r.time p place s ok.0 ok.1)
  stepped r GatherAll s may = Sound-ticked _ _ _ _ (gather_sound r.group r.diary r.sent r.time s)
  stepped r (DeliverNext p k) s may = deliver_sound r.group r.diary r.sent r.time p k s may
  stepped r (SplitOff set) s may = split_sound r.group r.diary r.sent r.time set s may.0 may.1
  stepped r (MergeInto set left) s may = merge_sound r.group r.diary r.sent r.time set left s may.0 may.1

  -- the picture of the beginning
  abbrev empty : Picture M
  empty = record { phase = λ q. Down; count = λ q. 0; conf = λ c. no_configuration; number = 0; stay = λ q c. no_stay; time = 0 }

  empty_holds : Holds empty
  empty_holds = record {
    within = λ q. omega arith;
    regular_from_one = λ q c e. absurd cc;
    apart_from_one = λ q c set e. absurd cc;
    here = λ q c e. absurd cc;
    counted = λ q c e. absurd cc;
    apart = λ q c set e. absurd cc;
    present = λ q c e pos. absurd (omega arith);
    gone = λ q c e. absurd cc;
    never = λ q c lt. refl;
    nowhere = λ q. refl;
    there = λ q c m e. cc;
    told = λ q c e. absurd cc;
    member = λ q c e. absurd cc;
    absent = λ q c e. (refl, refl);
    short = λ q c. omega arith;
    in_order = λ q c. refl;
    received = λ q c place pos le. absurd (omega arith);
    together = λ p q c t e m. absurd cc;
    same_list = λ q c t e. absurd cc;
    own = λ q c t e. absurd cc;
    with_all = λ p q c t time set left e w m. absurd cc;
    went_on = λ q c time set left w e. cc;
    bounded = λ q c place e. nothing_received M q place e;
    earlier = λ q c. tt;
  }

  none_configured : (c : ℕ) → configuration {M = M} no_group c ≡ no_configuration
  unfolding configuration
  none_configured c = ap (λ (o : Option (Configuration M)). option_map_or (λ c. c) o no_configuration) (at_place-nil c)

  begins_sound : SoundHistory beginning
  begins_sound = record {
    holds = subst Holds (sym (same_picture (picture no_group (λ p. Rattle.cg_group.specs.History.blank) 0) empty (phase_none M)
        (λ q. ap (λ (o : Option (Standing M)). option_map_or (λ s. s.delivered) o 0) (none_standing M q)) none_configured refl
        (λ q c. same_both (c == 0) no_stay) refl)) empty_holds;
    books = λ q. subst (λ x. Booked (conf_in x) (Rattle.cg_group.specs.History.blank {M = M})) (sym (phase_none M q)) (record { is_in = refl; idle = λ e. refl; none_at_zero = refl; in_turn = refl });
    sends = record {
      begins = λ q c. ([], append-nil (Rattle.cg_group.specs.Synchrony.ordered_from q (configuration {M = M} no_group c).ordered) ∙ ap (λ (C : Configuration M). Rattle.cg_group.specs.Synchrony.ordered_from q C.ordered) (none_configured c));
      waits = λ q c e. absurd (let clash : Down ≡ Regular c = sym (phase_none M q) ∙ e in cc);
      unsent = λ q c lt. refl;
      level = λ c. subst (λ (C : Configuration M). length C.received ≡ length C.ordered) (sym (none_configured c)) refl;
    };
  }

  -- calls that may be made keep the invariant
  ran : (calls : List (Call M)) (r : History M) → SoundHistory r → MayCallAll r calls → SoundHistory (history_from r calls)
  ran [] r s may = s
  ran (call ∷ calls) r s may = ran calls (step r call) (stepped r call s may.0) may.1

  -- the places of messages that were handed at places
  places_at : (C : Configuration M) (places : List ℕ) → Each (λ place. (0 < place) × (place ≤ length C.ordered)) places → places_of (deliveries_at C places) ≡ places
  unfolding delivery_at
  places_at C [] e = refl
  places_at C (place ∷ places) e =
      let w = at_place-within C.ordered place e.0.0 e.0.1 in
      ap (λ (o : Option (Sent M)). places_of (option_map_or (λ s. Message place s.from s.message ∷ []) o [] ++ deliveries_at C places)) w.1
      ∙ ap (λ z. place ∷ z) (places_at C places e.1)

  places_of-append : (xs ys : List (Delivery M)) → places_of (xs ++ ys) ≡ places_of xs ++ places_of ys
  places_of-append [] ys = refl
  places_of-append (Message place from m ∷ xs) ys = ap (λ z. place ∷ z) (places_of-append xs ys)
  places_of-append (TransitionalIn conf set ∷ xs) ys = places_of-append xs ys
  places_of-append (RegularIn conf set ∷ xs) ys = places_of-append xs ys

-- an element that passes stands among those that pass
has_filter : (t : ℕ → Bool) (xs : List ℕ) (x : ℕ) → has xs x ≡ true → t x ≡ true → has (filter t xs) x ≡ true
has_filter t [] x m e = absurd (let clash : false ≡ true = m in cc)
has_filter t (y ∷ xs) x m e = ⊎_elim
    (λ here. ap (λ z. has z x) (cond-true (t y) (y ∷ filter t xs) (filter t xs) (ap t (eqb-true y x here) ∙ e)) ∙ or_left (y == x) (has (filter t xs) x) here)
    (λ there. cond_both (t y) (y ∷ filter t xs) (filter t xs) (λ z. has z x ≡ true) (λ pass. or_right (y == x) (has (filter t xs) x) (has_filter t xs x there e)) (λ fail. has_filter t xs x there e))
    (or_cases (y == x) (has xs x) m)

-- counted numbers ascend, and so do those of them that pass, and more above them
AscendsAbove-lower : (low high : ℕ) (places : List ℕ) → low ≤ high → AscendsAbove high places → AscendsAbove low places
AscendsAbove-lower low high [] le a = tt
AscendsAbove-lower low high (place ∷ places) le a = ((let lt = a.0 in omega arith), a.1)

ascending_count : (from n : ℕ) (t : ℕ → Bool) (low : ℕ) → low < from → AscendsAbove low (filter t (count_up from n))
ascending_count from zero t low lt = tt
ascending_count from (suc n) t low lt =
    cond_both (t from) (from ∷ filter t (count_up (suc from) n)) (filter t (count_up (suc from) n)) (AscendsAbove low)
    (λ y. (lt, ascending_count (suc from) n t from (omega arith))) (λ m. ascending_count (suc from) n t low (omega arith))

ascending_both : (low from n : ℕ) (ys : List ℕ) → low < from → AscendsAbove (from + n - 1) ys → AscendsAbove low (count_up from n ++ ys)
ascending_both low from zero ys lt a = AscendsAbove-lower low (from + 0 - 1) ys (omega arith) a
ascending_both low from (suc n) ys lt a =
    (lt, ascending_both from (suc from) n ys (omega arith) (subst (λ z. AscendsAbove z ys) (let e : from + suc n - 1 ≡ suc from + n - 1 = omega arith in e) a))

module _ {M : Type 0} where
  -- where a place was handed, or why not
  skips : (g : GroupState M) (diary : ℕ → Diary M) (time : ℕ) → Holds (picture g diary time) → (p q conf place : ℕ) → 0 < place →
      place ≤ length (stay_in (diary p) conf).regular → has (configuration g conf).members q ≡ true →
      (place ≤ length (stay_in (diary q) conf).regular) ⊎ (has (places_of (later_of (stay_in (diary q) conf).parting)) place ≡ true)
      ⊎ IsDownThere (stay_in (diary q) conf).way ⊎ (phase_of g q ≡ Regular conf)
  unfolding transitional_places
  skips g diary time h p q conf place pos le member = by_way (stay_in (diary q) conf).way refl
    where
      by_parting : (t : Parting M) → (stay_in (diary q) conf).parting ≡ Some t →
          (place ≤ length (stay_in (diary q) conf).regular) ⊎ (has (places_of (later_of (stay_in (diary q) conf).parting)) place ≡ true)
          ⊎ IsDownThere (stay_in (diary q) conf).way ⊎ (phase_of g q ≡ Regular conf)
      by_parting t e =
          let C = configuration g conf in
          let k = length (stay_in (diary q) conf).regular in
          ⊎_elim
          (λ (past : k < place).
          let got : has_received C q place ≡ true = all_received-at C q place (h.received p conf place pos le) member in
          let within : place ≤ length C.ordered = let short = h.short p conf in omega arith in
          let listed : has (transitional_places C t.set k) place ≡ true =
          has_filter (λ place. list_any (λ r. has_received C r place) t.set) (above_up_to k (length C.ordered)) place
          (has_count_up (suc k) (length C.ordered - k) place past (omega arith)) (list_any_in (λ r. has_received C r place) t.set q (h.own q conf t e) got) in
          let places : places_of t.later ≡ transitional_places C t.set k =
          ap places_of (h.same_list q conf t e) ∙ places_at C (transitional_places C t.set k)
          (Each-weaker (λ place. (k < place) × (place ≤ length C.ordered)) (λ place. (0 < place) × (place ≤ length C.ordered)) (λ place b. (omega arith, b.1)) (transitional_places C t.set k) (Each-transitional C t.set k)) in
          inr (inl (ap (λ o. has (places_of (later_of o)) place) e ∙ ap (λ z. has z place) places ∙ listed)))
          (λ (before : place ≤ k). inl before)
          (cases_lt k place)

      by_option : (o : Option (Parting M)) → (stay_in (diary q) conf).parting ≡ o → ((stay_in (diary q) conf).parting ≡ None → ⊥) →
          (place ≤ length (stay_in (diary q) conf).regular) ⊎ (has (places_of (later_of (stay_in (diary q) conf).parting)) place ≡ true)
          ⊎ IsDownThere (stay_in (diary q) conf).way ⊎ (phase_of g q ≡ Regular conf)
      by_option None e some = absurd (some e)
      by_option (Some t) e some = by_parting t e

      by_way : (w : Way) → (stay_in (diary q) conf).way ≡ w →
          (place ≤ length (stay_in (diary q) conf).regular) ⊎ (has (places_of (later_of (stay_in (diary q) conf).parting)) place ≡ true)
          ⊎ IsDownThere (stay_in (diary q) conf).way ⊎ (phase_of g q ≡ Regular conf)
      by_way Never e = absurd (h.there q conf member e)
      by_way Here e =
          let there = h.gone q conf e in
          let some : (conf ≡ 0 → ⊥) = λ z. (let clash : Never ≡ Here = sym (h.nowhere q) ∙ subst (λ z. (stay_in (diary q) z).way ≡ Here) z e in cc) in
          ⊎_elim (λ r. inr (inr (inr r))) (λ v. let old = h.apart q conf v.0 v.1 in by_parting old.0 old.1) (in_phase (phase_of g q) conf there (omega arith))
      by_way (WentDown t) e = inr (inr (inl (subst IsDownThere (sym e) tt)))
      by_way (WentOn t set left) e = by_option (stay_in (diary q) conf).parting refl (h.went_on q conf t set left e)

  -- no place is handed twice
  ascends : (g : GroupState M) (diary : ℕ → Diary M) (time : ℕ) → Holds (picture g diary time) → (p conf : ℕ) →
      AscendsAbove 0 (places_of ((stay_in (diary p) conf).regular ++ later_of (stay_in (diary p) conf).parting))
  unfolding transitional_places
  ascends g diary time h p conf = by_option (stay_in (diary p) conf).parting refl
    where
      C : Configuration M
      C = configuration g conf

      k : ℕ
      k = length (stay_in (diary p) conf).regular

      regular : places_of (stay_in (diary p) conf).regular ≡ count_up 1 (k - 0)
      regular = ap places_of (h.in_order p conf) ∙ places_at C (above_up_to 0 k)
          (Each-weaker (λ place. (0 < place) × (place ≤ k)) (λ place. (0 < place) × (place ≤ length C.ordered)) (λ place b. (b.0, (let short = h.short p conf in omega arith))) (above_up_to 0 k) (Each-above 0 k))

      joined : (later : List (Delivery M)) → AscendsAbove k (places_of later) → AscendsAbove 0 (places_of ((stay_in (diary p) conf).regular ++ later))
      joined later a = subst (AscendsAbove 0) (sym (places_of-append (stay_in (diary p) conf).regular later ∙ ap (λ z. z ++ places_of later) regular))
          (ascending_both 0 1 (k - 0) (places_of later) (omega arith) (subst (λ z. AscendsAbove z (places_of later)) (let e : k ≡ 1 + (k - 0) - 1 = omega arith in e) a))

      by_option : (o : Option (Parting M)) → (stay_in (diary p) conf).parting ≡ o → AscendsAbove 0 (places_of ((stay_in (diary p) conf).regular ++ later_of o))
      by_option None e = joined [] tt
      by_option (Some t) e = joined t.later
          (subst (AscendsAbove k) (sym (ap places_of (h.same_list p conf t e) ∙ places_at C (transitional_places C t.set k)
          (Each-weaker (λ place. (k < place) × (place ≤ length C.ordered)) (λ place. (0 < place) × (place ≤ length C.ordered)) (λ place b. (omega arith, b.1)) (transitional_places C t.set k) (Each-transitional C t.set k))))
          (ascending_count (suc k) (length C.ordered - k) (λ place. list_any (λ r. has_received C r place) t.set) k (omega arith)))

  synchronous : (r : History M) → SoundHistory r → IsVirtuallySynchronous r
  synchronous r s = record {
    in_turn = λ p. (s.books p).in_turn;
    in_order = s.holds.in_order;
    received = s.holds.received;
    told = s.holds.told;
    member = s.holds.member;
    parts_itself = s.holds.own;
    together = s.holds.together;
    same_list = s.holds.same_list;
    with_all = s.holds.with_all;
    nobody_skips = λ p q conf place pos le member. skips r.group r.diary r.time s.holds p q conf place pos le member;
    sent_there = λ p conf. s.sends.begins p conf;
    once = λ p conf. ascends r.group r.diary r.time s.holds p conf;
  }

  pub always : AlwaysSynchronous M
  always calls may = synchronous (history_from beginning calls) (ran calls beginning begins_sound may)
