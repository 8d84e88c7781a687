-- A member leaves its configuration with others: the small step of that, behind places that it was handed; and which places go with it.
use Rattle.std.proofs.Common.{◌≡◌, ℕ, zero, suc, ◌+◌, ◌-◌, ◌≤◌, ◌<◌, Bool, true, false, ◌&&◌, List, [], ◌∷◌, filter, length, refl, sym, ap, ap₂, ◌∙◌, ⊎_elim, eqb-true, nat_le, arith, inl, inr, ◌⊎◌}
use Rattle.std.specs.Prelude.{◌==◌}
use Rattle.std.specs.List.{list_any, list_all}
use Rattle.std.proofs.lemmas.Bool.{cond-true, cond_both, and_from, lt-ltb, le-leb, cases_Bool, or_cases, or_right, leb-true, leb-false}
use Rattle.cg_base.specs.Lists.{count_up, above_up_to, Each}
use Rattle.cg_base.specs.Sets.{has}
use Rattle.cg_wire.specs.declared.message.Msg.{Msg}
use Rattle.cg_group.specs.declared.phase.Phase.{Phase}
use Rattle.cg_group.specs.declared.phase.Phase.TheVariants.{Transitional}
use Rattle.cg_group.specs.declared.delivery.Delivery.TheVariants.{Transitional as TransitionalIn}
use Rattle.cg_group.specs.State.{Standing, Configuration, GroupState, configuration, regular_in, has_received, set_standing}
use Rattle.cg_group.specs.Events.{send_all, deliveries_at, transitional_places}
use Rattle.cg_group.specs.Refusals.{sender_at}
use Rattle.cg_base.specs.EachLaws.{Each-above, Each-weaker}
use Rattle.cg_base.specs.MemberLaws.{has_count_up, list_any_in}
use Rattle.cg_client.specs.Turn.{Turn, begin}
use Rattle.cg_client.specs.Requests.{settle}
use Rattle.cg_disk_records.specs.Crash.{Disk}
use Rattle.cg_model.specs.World.{World}
use Rattle.cg_model.specs.Small.{Leaves, Settles, take_all, take_parting, become_past}
use Rattle.cg_model.specs.Smalls.{implies, ascend_within, hold_received, hold_earlier}
use Rattle.cg_agree_lemmas.specs.Parts.{IsPart}
use Rattle.cg_agree_lemmas.specs.PartsTaken.{part-take_all, part-settle}
use Rattle.cg_agree_lemmas.specs.GroupChanges.{set-twice, sent-dropped}
use Rattle.cg_agree_lemmas.specs.TurnWorlds.{hosted, turn-next}
use Rattle.cg_agree_lemmas.specs.HandWorlds.{standing, handed_to, phase-stands, home-stands}
use Rattle.cg_agree_lemmas.specs.SmallWorlds.{grouped, turning_in, small_in}

-- ---- the step

module _ (w : World) (g : GroupState Msg) (p : ℕ) (disk : Disk) (s : Standing Msg) (named : s.id ≡ p) (regular : (regular_in s.phase == 0) ≡ false) (set : List ℕ) (own : ℕ) where
  -- how it stands then
  abbrev pub past_standing : Standing Msg
  past_standing = record { id = p; phase = Transitional (regular_in s.phase) set; delivered = own; unordered = [] }

  abbrev pub left_to : Turn → World
  left_to t = hosted w p t.replica disk (set_standing g past_standing)

  abbrev home_conf : Configuration Msg
  home_conf = configuration g (regular_in s.phase)

  -- what it says then is dropped
  part-dropped : (t : Turn) (h : GroupState Msg) (part : Turn → Turn) → IsPart part → h ≡ set_standing g past_standing → turning_in (hosted w p t.replica disk h) p part ≡ left_to (part t)
  part-dropped t h part is same =
      let u = part (begin t.replica) in
      turn-next w h p t.replica disk part
      ∙ ap (hosted w p u.replica disk) (ap (λ x. send_all x p u.sent) same ∙ sent-dropped u.sent g past_standing p refl refl)
      ∙ ap left_to (sym (is t))

  pub leaves : (t : Turn) (n : ℕ) (places : List ℕ) →
      small_in (handed_to w g p disk s named regular t n) (Leaves p set own places) ≡ left_to (take_all (TransitionalIn (regular_in s.phase) set ∷ deliveries_at home_conf places) t)
  unfolding small_in
  leaves t n places =
      let now = handed_to w g p disk s named regular t n in
      let h = set_standing g (standing w g p disk s named regular t n) in
      let phase = phase-stands w g p disk s named regular t n in
      let gone : become_past h p set own ≡ set_standing g past_standing =
      ap (λ (x : Phase). (let y : Standing Msg = record { id = p; phase = Transitional (regular_in x) set; delivered = own; unordered = [] } in set_standing h y)) phase
      ∙ set-twice g (standing w g p disk s named regular t n) past_standing named in
      let list = TransitionalIn (regular_in s.phase) set ∷ deliveries_at home_conf places in
      let part : take_parting h p set places ≡ take_all list =
      ap₂ (λ (x : Phase) c. take_all (TransitionalIn (regular_in x) set ∷ deliveries_at c places)) phase (home-stands w g p disk s named regular t n) in
      ap (turning_in (grouped now (become_past h p set own)) p) part ∙ part-dropped t (become_past h p set own) (take_all list) (part-take_all list) gone

  pub settles-left : (t : Turn) → small_in (left_to t) (Settles p) ≡ left_to (settle t)
  unfolding small_in
  settles-left t = part-dropped t (set_standing g past_standing) settle part-settle refl

-- ---- the places

-- those that a test holds of ascend
filter-ascends : (t : ℕ → Bool) (n low from high : ℕ) → low < from → from + n ≤ suc high → ascend_within low high (filter t (count_up from n)) ≡ true
filter-ascends t zero low from high less le = refl
filter-ascends t (suc n) low from high less le =
    cond_both (t from) (from ∷ filter t (count_up (suc from) n)) (filter t (count_up (suc from) n)) (λ xs. ascend_within low high xs ≡ true)
    (λ y. and_from _ _ (and_from _ _ (lt-ltb low from less) (le-leb from high (omega arith))) (filter-ascends t n from (suc from) high (omega arith) (omega arith)))
    (λ f. filter-ascends t n low (suc from) high (omega arith) (omega arith))

has-filtered : (t : ℕ → Bool) (xs : List ℕ) (n : ℕ) → t n ≡ true → has xs n ≡ true → has (filter t xs) n ≡ true
has-filtered t [] n is there = absurd (let clash : false ≡ true = there in cc)
has-filtered t (x ∷ xs) n is there =
    ⊎_elim
    (λ here. (let same : x ≡ n = eqb-true x n here in
    let of_x : t x ≡ true = ap t same ∙ is in
    ap (λ list. has list n) (cond-true (t x) (x ∷ filter t xs) (filter t xs) of_x) ∙ rw here refl))
    (λ later. cond_both (t x) (x ∷ filter t xs) (filter t xs) (λ list. has list n ≡ true) (λ y. or_right (x == n) (has (filter t xs) n) (has-filtered t xs n is later)) (λ f. has-filtered t xs n is later))
    (or_cases (x == n) (has xs n) there)

any-kept : (t u : ℕ → Bool) → ((q : ℕ) → t q ≡ true → u q ≡ true) → (set : List ℕ) → list_any t set ≡ true → list_any u set ≡ true
any-kept t u kept [] some = some
any-kept t u kept (x ∷ set) some =
    ⊎_elim (λ here. (let of_x : u x ≡ true = kept x here in rw of_x refl)) (λ later. or_right (u x) (list_any u set) (any-kept t u kept set later)) (or_cases (t x) (list_any t set) some)

all-each : (t : ℕ → Bool) (xs : List ℕ) → Each (λ x. t x ≡ true) xs → list_all t xs ≡ true
all-each t [] each = refl
all-each t (x ∷ xs) each = and_from (t x) (list_all t xs) each.0 (all-each t xs each.1)

filter-each : (t : ℕ → Bool) (xs : List ℕ) (P : ℕ → Type 0) → Each P xs → Each (λ x. P x × (t x ≡ true)) (filter t xs)
filter-each t [] P each = tt
filter-each t (x ∷ xs) P each =
    cond_both (t x) (x ∷ filter t xs) (filter t xs) (Each (λ x. P x × (t x ≡ true))) (λ y. ((each.0, y), filter-each t xs P each.1)) (λ f. filter-each t xs P each.1)

implied : (a b : Bool) → (a ≡ true → b ≡ true) → implies a b ≡ true
implied true b f = f refl
implied false b f = refl

module _ (c : Configuration Msg) (set : List ℕ) (p last : ℕ) (is : has set p ≡ true)
    (closed : (q earlier place : ℕ) → 0 < earlier → earlier < place → sender_at c earlier ≡ sender_at c place → has_received c q place ≡ true → has_received c q earlier ≡ true) where
  abbrev long : ℕ
  long = length c.ordered

  abbrev pub going : List ℕ
  going = transitional_places c set last

  abbrev some_has : ℕ → Bool
  some_has place = list_any (λ q. has_received c q place) set

  places-ascend : ascend_within last long going ≡ true
  unfolding transitional_places
  places-ascend = ⊎_elim
      (λ le. filter-ascends some_has (long - last) last (suc last) long (omega arith) (let f : last ≤ long = le in omega arith))
      (λ more. (let none : long - last ≡ 0 = (let f : long < last = more in omega arith) in rw none refl))
      (le_or last long) where
        le_or : (m n : ℕ) → (m ≤ n) ⊎ (n < m)
        le_or m n = ⊎_elim (λ y. inl (leb-true m n y)) (λ f. inr (leb-false m n f)) (cases_Bool (nat_le m n))

  has-going : (place : ℕ) → last < place → place ≤ long → some_has place ≡ true → has going place ≡ true
  unfolding transitional_places
  has-going place less le some = has-filtered some_has (above_up_to last long) place some (has_count_up (suc last) (long - last) place (omega arith) (omega arith))

  places-received : hold_received c p last going ≡ true
  places-received = all-each _ (above_up_to last long)
      (Each-weaker (λ k. (last < k) × (k ≤ long)) (λ k. implies (has_received c p k) (has going k) ≡ true)
      (λ k b. implied (has_received c p k) (has going k) (λ got. has-going k b.0 b.1 (list_any_in (λ q. has_received c q k) set p is got)))
      (above_up_to last long) (Each-above last long))

  places-earlier : hold_earlier c last going ≡ true
  unfolding transitional_places
  places-earlier = all-each _ (filter some_has (above_up_to last long))
      (Each-weaker (λ k. ((last < k) × (k ≤ long)) × (some_has k ≡ true)) (λ k. list_all (λ earlier. implies (sender_at c earlier == sender_at c k) (has going earlier)) (above_up_to last (k - 1)) ≡ true)
      (λ k b. earlier-of k b.0.0 b.0.1 b.1)
      (filter some_has (above_up_to last long)) (filter-each some_has (above_up_to last long) (λ k. (last < k) × (k ≤ long)) (Each-above last long))) where
        earlier-of : (k : ℕ) → last < k → k ≤ long → some_has k ≡ true → list_all (λ earlier. implies (sender_at c earlier == sender_at c k) (has going earlier)) (above_up_to last (k - 1)) ≡ true
        earlier-of k less le some = all-each _ (above_up_to last (k - 1))
            (Each-weaker (λ e. (last < e) × (e ≤ k - 1)) (λ e. implies (sender_at c e == sender_at c k) (has going e) ≡ true)
            (λ e b. (let low : last < e = b.0 in let high : e ≤ k - 1 = b.1 in
            implied (sender_at c e == sender_at c k) (has going e) (λ same. has-going e b.0 (omega arith)
            (any-kept (λ q. has_received c q k) (λ q. has_received c q e) (λ q got. closed q e k (omega arith) (omega arith) (eqb-true (sender_at c e) (sender_at c k) same) got) set some))))
            (above_up_to last (k - 1)) (Each-above last (k - 1)))

  -- those places may go with the member
  pub may-places : (ascend_within last long going && hold_received c p last going && hold_earlier c last going) ≡ true
  may-places = and_from _ _ (and_from _ _ places-ascend places-received) places-earlier
