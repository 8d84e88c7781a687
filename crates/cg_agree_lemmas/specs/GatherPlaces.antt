-- A gathering in small steps, second half: each regular member receives the places of its configuration that it lacks.
use Rattle.std.proofs.Common.{◌≡◌, ℕ, zero, suc, pred, ◌+◌, ◌-◌, ◌≤◌, ◌<◌, Bool, true, false, not, List, [], ◌∷◌, ◌++◌, Option, Some, None, map, filter, fold, find, length, refl, sym, ap, ◌∙◌, ⊎_elim, eqb-true, eq-eqb, subst, is_some, is_none, option_map, arith}
use Rattle.std.specs.Prelude.{◌==◌, ◌&&◌}
use Rattle.std.specs.Option.{option_map_or}
use Rattle.std.proofs.lemmas.Bool.{cases_Bool, cond-true, cond-false, cond_both, not-true, or_cases}
use Rattle.cg_base.specs.Lists.{at_place, count_up, above_up_to, first_some, Each}
use Rattle.cg_base.specs.Sets.{has}
use Rattle.cg_wire.specs.declared.message.Msg.{Msg}
use Rattle.cg_group.specs.declared.phase.Phase.{Phase}
use Rattle.cg_group.specs.declared.phase.Phase.TheVariants.{Down}
use Rattle.cg_group.specs.declared.reason.Reason.{Reason}
use Rattle.cg_group.specs.declared.reason.Reason.TheVariants.{NotUp, NotRegular, NoSuchPlace, AlreadyReceived, EarlierMissing}
use Rattle.cg_group.specs.State.{Sent, Standing, Configuration, GroupState, no_configuration, standing_of, configuration, phase_of, regular_in, home, unordered_of, has_received, set_standing, set_configuration, changed_at}
use Rattle.cg_group.specs.Events.{order, order_from, order_all, with_message, receive, with_receipt, regulars}
use Rattle.cg_group.specs.Refusals.{refuse, not_up, not_regular, no_such_place, already_received, earlier_missing, is_missing, sender_at, receive_refusal}
use Rattle.cg_base.specs.EachLaws.{Each-above, Each-weaker}
use Rattle.cg_base.specs.FindLaws.{find_none}
use Rattle.cg_base.specs.ListLaws.{length-more}
use Rattle.cg_group.specs.LookupLaws.{at_place-changed}
use Rattle.cg_group.specs.PlaceLaws.{at_place-within}
use Rattle.cg_model.specs.World.{World}
use Rattle.cg_model.specs.Small.{Receives}
use Rattle.cg_model.specs.Smalls.{may_make, missing}
use Rattle.cg_model.specs.FactsLists.{IsRising, AreRising}
use Rattle.cg_agree_lemmas.specs.Standings.{rising-lower}
use Rattle.cg_agree_lemmas.specs.GroupChanges.{DoRise, rising-set}
use Rattle.cg_agree_lemmas.specs.GatherReceipts.{member-same, changed-same, changed-twice, got, gets, gets-same, got-other, rising-all, length-all, lacks, IsReached, reached-next}
use Rattle.cg_agree_lemmas.specs.SmallWorlds.{grouped, small_in, may_in, played_in, MayIn}

-- ---- who is regular

rising-filtered : (t : Standing Msg → Bool) (xs : List (Standing Msg)) (low : ℕ) → IsRising low (map (λ s. s.id) xs) → IsRising low (map (λ s. s.id) (filter t xs))
rising-filtered t [] low rise = tt
rising-filtered t (x ∷ xs) low rise =
    let rest = rising-filtered t xs (suc x.id) rise.1 in
    cond_both (t x) (x ∷ filter t xs) (filter t xs) (λ list. IsRising low (map (λ s. s.id) list))
    (λ y. (rise.0, rest)) (λ n. rising-lower low (suc x.id) (map (λ s. s.id) (filter t xs)) (let first : low ≤ x.id = rise.0 in omega arith) rest)

filtered-found : (t : Standing Msg → Bool) (xs : List (Standing Msg)) (low p : ℕ) → IsRising low (map (λ s. s.id) xs) → has (map (λ s. s.id) (filter t xs)) p ≡ true →
    option_map_or t (find (λ s. s.id == p) xs) false ≡ true
filtered-found t [] low p rise there = there
filtered-found t (x ∷ xs) low p rise there =
    let rest = rising-filtered t xs (suc x.id) rise.1 in
    ⊎_elim
    (λ y. (let same : x.id ≡ p = eqb-true x.id p y in
    ap (λ o. option_map_or t o false) (cond-true (x.id == p) (Some x) (find (λ s. s.id == p) xs) y)
    ∙ ⊎_elim (λ yes. yes)
    (λ n. (let later : has (map (λ s. s.id) (filter t xs)) p ≡ true = subst (λ list. has (map (λ s. s.id) list) p ≡ true) (cond-false (t x) (x ∷ filter t xs) (filter t xs) n) there in
    let above : suc x.id ≤ p = (member-same (suc x.id) p (map (λ s. s.id) (filter t xs)) rest later).1 in absurd (omega arith)))
    (cases_Bool (t x))))
    (λ n. ap (λ o. option_map_or t o false) (cond-false (x.id == p) (Some x) (find (λ s. s.id == p) xs) n)
    ∙ filtered-found t xs (suc x.id) p rise.1
    (cond_both (t x) (x ∷ filter t xs) (filter t xs) (λ list. has (map (λ s. s.id) list) p ≡ true → has (map (λ s. s.id) (filter t xs)) p ≡ true)
    (λ y h. ⊎_elim (λ e. absurd (let clash : true ≡ false = sym e ∙ n in cc)) (λ l. l) (or_cases (x.id == p) (has (map (λ s. s.id) (filter t xs)) p) h)) (λ f h. h) there))
    (cases_Bool (x.id == p))

pub rising-regulars : (g : GroupState Msg) → DoRise g → IsRising 0 (regulars g)
rising-regulars g rises = rising-filtered (λ s. not (regular_in s.phase == 0)) g.replicas 0 rises

-- a regular member, with its standing
pub record IsRegularAt (g : GroupState Msg) (p : ℕ) : Type 0 where
  pub standing : Standing Msg
  pub is : standing_of g p ≡ Some standing
  pub regular : (regular_in standing.phase == 0) ≡ false

pub regular-at : (g : GroupState Msg) (p : ℕ) → DoRise g → has (regulars g) p ≡ true → IsRegularAt g p
unfolding standing_of
regular-at g p rises there = at (standing_of g p) refl where
  found : option_map_or (λ (s : Standing Msg). not (regular_in s.phase == 0)) (standing_of g p) false ≡ true
  found = filtered-found (λ s. not (regular_in s.phase == 0)) g.replicas 0 p rises there

  at : (o : Option (Standing Msg)) → standing_of g p ≡ o → IsRegularAt g p
  at None e = absurd (let clash : false ≡ true = sym (ap (λ (o : Option (Standing Msg)). option_map_or (λ s. not (regular_in s.phase == 0)) o false) e) ∙ found in cc)
  at (Some s) e = record { standing = s; is = e; regular = not-true (regular_in s.phase == 0) (sym (ap (λ (o : Option (Standing Msg)). option_map_or (λ s. not (regular_in s.phase == 0)) o false) e) ∙ found) }

-- ---- configurations whose receipts fit

pub record IsFit (c : Configuration Msg) : Type 0 where
  pub rising : AreRising c.received
  pub long : length c.received ≡ length c.ordered

abbrev pub Fits : GroupState Msg → Type 0
Fits g = Each IsFit g.configurations

none-fits : IsFit no_configuration
none-fits = record { rising = tt; long = refl }

pub fit-at : (list : List (Configuration Msg)) (n : ℕ) → Each IsFit list → IsFit (option_map_or (λ c. c) (at_place list n) no_configuration)
fit-at list zero each = none-fits
fit-at [] (suc n) each = none-fits
fit-at (c ∷ list) (suc zero) each = each.0
fit-at (c ∷ list) (suc (suc n)) each = fit-at list (suc n) each.1

fit-changed : (list : List (Configuration Msg)) (n : ℕ) (c : Configuration Msg) → IsFit c → Each IsFit list → Each IsFit (changed_at (λ old. c) list n)
fit-changed [] n c is each = tt
fit-changed (x ∷ list) n c is each = cond_both (n == 1) (c ∷ list) (x ∷ changed_at (λ old. c) list (pred n)) (Each IsFit) (λ y. (is, each.1)) (λ f. (each.0, fit-changed list (pred n) c is each.1))

pub rising-next : (rs : List (List ℕ)) (p : ℕ) → AreRising rs → AreRising (rs ++ (p ∷ []) ∷ [])
rising-next [] p each = ((omega arith, tt), tt)
rising-next (set ∷ rs) p each = (each.0, rising-next rs p each.1)

fit-message : (c : Configuration Msg) (p : ℕ) (m : Msg) → IsFit c → IsFit (with_message c p m)
unfolding with_message
fit-message c p m is = record {
  rising = rising-next c.received p is.rising;
  long = length-more c.received (p ∷ []) ∙ ap suc is.long ∙ sym (length-more c.ordered (let x : Sent Msg = record { from = p; message = m } in x));
}

-- orders keep that
ordered-fits : (g : GroupState Msg) (p : ℕ) → DoRise g × Fits g → DoRise (order g p) × Fits (order g p)
unfolding order order_from configuration set_configuration set_standing
ordered-fits g p is = at (standing_of g p) where
  from : (s : Standing Msg) (list : List Msg) → DoRise (order_from g s list) × Fits (order_from g s list)
  from s [] = is
  from s (m ∷ rest) = (
    rising-set g (record s { unordered = rest }) is.0,
    fit-changed g.configurations (regular_in s.phase) (with_message (configuration g (regular_in s.phase)) s.id m)
        (fit-message (configuration g (regular_in s.phase)) s.id m (fit-at g.configurations (regular_in s.phase) is.1)) is.1,
  )

  at : (o : Option (Standing Msg)) → DoRise (option_map_or (λ s. order_from g s s.unordered) o g) × Fits (option_map_or (λ s. order_from g s s.unordered) o g)
  at None = is
  at (Some s) = from s s.unordered

orders-fit : (list : List Msg) (g : GroupState Msg) (p : ℕ) → DoRise g × Fits g → (let h = fold (λ g (m : Msg). order g p) g list in DoRise h × Fits h)
orders-fit [] g p is = is
orders-fit (m ∷ list) g p is = orders-fit list (order g p) p (ordered-fits g p is)

pub all-fit : (ps : List ℕ) (g : GroupState Msg) → DoRise g × Fits g → DoRise (fold order_all g ps) × Fits (fold order_all g ps)
unfolding order_all
all-fit [] g is = is
all-fit (p ∷ ps) g is = all-fit ps (order_all g p) (orders-fit (unordered_of g p) g p is)

-- ---- one member receives

set-configuration-twice : (k : GroupState Msg) (conf : ℕ) (a b : Configuration Msg) → set_configuration (set_configuration k conf a) conf b ≡ set_configuration k conf b
unfolding set_configuration
set-configuration-twice k conf a b = ap (λ list. record k { configurations = list }) (changed-twice a b k.configurations conf)

up-so : (k : GroupState Msg) (conf : ℕ) (c : Configuration Msg) (p : ℕ) (s : Standing Msg) → standing_of k p ≡ Some s → not_up (set_configuration k conf c) p ≡ None
unfolding set_configuration standing_of
up-so k conf c p s is = ap (λ (o : Option (Standing Msg)). refuse (not (is_some o)) (NotUp p)) is

module _ (w : World) (k : GroupState Msg) (p : ℕ) (s : Standing Msg) (is : standing_of k p ≡ Some s) (regular : (regular_in s.phase == 0) ≡ false)
    (C : Configuration Msg) (there : at_place k.configurations (regular_in s.phase) ≡ Some C) (fit : IsFit C) where
  abbrev conf : ℕ
  conf = regular_in s.phase

  abbrev with_receipts : List (List ℕ) → Configuration Msg
  with_receipts rs = record C { received = rs }

  abbrev pub received_so : List (List ℕ) → GroupState Msg
  received_so rs = set_configuration k conf (with_receipts rs)

  pub as-it-is : received_so C.received ≡ k
  unfolding set_configuration
  as-it-is = ap (λ list. record k { configurations = list }) (changed-same (λ old. C) k.configurations conf C there refl)

  phase-so : (rs : List (List ℕ)) → phase_of (received_so rs) p ≡ s.phase
  unfolding set_configuration standing_of
  phase-so rs = ap (λ (o : Option (Standing Msg)). option_map_or (λ s. s.phase) o Down) is

  conf-so : (rs : List (List ℕ)) → configuration (received_so rs) conf ≡ with_receipts rs
  unfolding set_configuration configuration
  conf-so rs =
      ap (λ (o : Option (Configuration Msg)). option_map_or (λ c. c) o no_configuration)
      (at_place-changed (λ old. with_receipts rs) k.configurations conf conf
      ∙ cond-true (conf == conf) (option_map (λ old. with_receipts rs) (at_place k.configurations conf)) (at_place k.configurations conf) (eq-eqb conf conf refl)
      ∙ ap (option_map (λ old. with_receipts rs)) there)

  home-so : (rs : List (List ℕ)) → home (received_so rs) p ≡ with_receipts rs
  home-so rs = ap (λ (x : Phase). configuration (received_so rs) (regular_in x)) (phase-so rs) ∙ conf-so rs

  receives-so : (rs : List (List ℕ)) (x : ℕ) → receive (received_so rs) p x ≡ received_so (gets p rs x)
  unfolding receive with_receipt
  receives-so rs x =
      ap (λ (y : Phase). set_configuration (received_so rs) (regular_in y) (with_receipt (configuration (received_so rs) (regular_in y)) p x)) (phase-so rs)
      ∙ ap (λ (c : Configuration Msg). set_configuration (received_so rs) conf (with_receipt c p x)) (conf-so rs)
      ∙ twice (with_receipts rs) (with_receipts (gets p rs x)) where
        twice : (a b : Configuration Msg) → set_configuration (set_configuration k conf a) conf b ≡ set_configuration k conf b
        twice a b = set-configuration-twice k conf a b

  pub receives-all : (xs : List ℕ) (rs : List (List ℕ)) → fold (λ g x. receive g p x) (received_so rs) xs ≡ received_so (fold (gets p) rs xs)
  receives-all [] rs = refl
  receives-all (x ∷ xs) rs = ap (λ g. fold (λ g x. receive g p x) g xs) (receives-so rs x) ∙ receives-all xs (gets p rs x)

  may-receive : (rs : List (List ℕ)) (n : ℕ) → IsReached p C.received rs n → suc n ≤ length C.received → got p C.received (suc n) ≡ false → may_in (grouped w (received_so rs)) (Receives p (suc n)) ≡ true
  unfolding may_in may_make receive_refusal has_received
  may-receive rs n reached le lacked =
      let g = received_so rs in
      let x = suc n in
      let at_home = home-so rs in
      let inside = at_place-within C.ordered x (omega arith) (subst (λ n. x ≤ n) fit.long le) in
      let up : not_up g p ≡ None = stands-up rs in
      let regular_now : not_regular g p ≡ None = ap (λ (y : Phase). refuse (not (not (regular_in y == 0))) (NotRegular p)) (phase-so rs) ∙ ap (λ b. refuse (not (not b)) (NotRegular p)) regular in
      let place : no_such_place g p x ≡ None = ap (λ (c : Configuration Msg). refuse (is_none (at_place c.ordered x)) (NoSuchPlace x)) at_home ∙ ap (λ (o : Option (Sent Msg)). refuse (is_none o) (NoSuchPlace x)) inside.1 in
      let new : already_received g p x ≡ None = ap (λ (c : Configuration Msg). refuse (has_received c p x) (AlreadyReceived x)) at_home
      ∙ ap (λ b. refuse b (AlreadyReceived x)) (reached.above x (omega arith) ∙ lacked) in
      let earlier : earlier_missing g p x ≡ None = ap (λ (c : Configuration Msg). option_map EarlierMissing (find (is_missing c p x) (above_up_to 0 (x - 1)))) at_home
      ∙ ap (option_map EarlierMissing) (find_none (is_missing (with_receipts rs) p x) (above_up_to 0 (x - 1))
      (Each-weaker (λ e. (0 < e) × (e ≤ x - 1)) (λ e. is_missing (with_receipts rs) p x e ≡ false)
      (λ e b. had (sender_at (with_receipts rs) e == sender_at (with_receipts rs) x) (got p rs e)
      (reached.below e b.0 (let high : e ≤ suc n - 1 = b.1 in omega arith)))
      (above_up_to 0 (x - 1)) (Each-above 0 (x - 1)))) in
      five up regular_now place new earlier where
        had : (a b : Bool) → b ≡ true → (a && not b) ≡ false
        had true b e = ap not e
        had false b e = refl

        five : {a b c d e : Option Reason} → a ≡ None → b ≡ None → c ≡ None → d ≡ None → e ≡ None → is_none (first_some (a ∷ b ∷ c ∷ d ∷ e ∷ [])) ≡ true
        five u v x y z = rw (u, v, x, y, z) refl

        stands-up : (rs : List (List ℕ)) → not_up (received_so rs) p ≡ None
        stands-up rs = up-so k conf (with_receipts rs) p s is

  -- those that it lacks, of all places above one
  pub receives-lacked : (m n : ℕ) (rs : List (List ℕ)) → IsReached p C.received rs n → n + m ≤ length C.received →
      (let xs = count_up (suc n) m in let steps = map (Receives p) (filter (lacks p C.received) xs) in
      MayIn (grouped w (received_so rs)) steps × (played_in (grouped w (received_so rs)) steps ≡ grouped w (received_so (fold (gets p) rs xs))))
  unfolding small_in
  receives-lacked zero n rs reached le = (tt, refl)
  receives-lacked (suc m) n rs reached le =
      let next = reached-next p C.received rs n (omega arith) reached in
      let rest = receives-lacked m (suc n) (gets p rs (suc n)) next (omega arith) in
      let xs = count_up (suc (suc n)) m in
      let more = filter (lacks p C.received) xs in
      ⊎_elim
      (λ had. (let same : gets p rs (suc n) ≡ rs = gets-same p (suc n) rs reached.rising (reached.above (suc n) (omega arith) ∙ had) in
      let steps : filter (lacks p C.received) (suc n ∷ xs) ≡ more = cond-false (lacks p C.received (suc n)) (suc n ∷ more) more (ap not had) in
      rw steps (
        subst (λ z. MayIn (grouped w (received_so z)) (map (Receives p) more)) same rest.0,
        ap (λ z. played_in (grouped w (received_so z)) (map (Receives p) more)) (sym same) ∙ rest.1,
      )))
      (λ lacked. (let steps : filter (lacks p C.received) (suc n ∷ xs) ≡ suc n ∷ more = cond-true (lacks p C.received (suc n)) (suc n ∷ more) more (ap not lacked) in
      let first = ap (grouped w) (receives-so rs (suc n)) in
      rw steps (
        (may-receive rs n reached (omega arith) lacked, subst (λ z. MayIn z (map (Receives p) more)) (sym first) rest.0),
        ap (λ z. played_in z (map (Receives p) more)) first ∙ rest.1,
      )))
      (cases_Bool (got p C.received (suc n)))

  -- what another one lacks is what it lacked
  pub missing-other : (q conf' : ℕ) → (q ≡ p → ⊥) → (xs : List ℕ) → missing (configuration (received_so (fold (gets p) C.received xs)) conf') q ≡ missing (configuration k conf') q
  unfolding configuration set_configuration has_received
  missing-other q conf' apart xs = ⊎_elim
      (λ y. (let same : conf' ≡ conf = eqb-true conf' conf y in
      let now : at_place (changed_at (λ old. after) k.configurations conf) conf' ≡ Some after =
      at_place-changed (λ old. after) k.configurations conf conf' ∙ cond-true (conf' == conf) (option_map (λ old. after) (at_place k.configurations conf')) (at_place k.configurations conf') y
      ∙ ap (option_map (λ old. after)) (ap (at_place k.configurations) same ∙ there) in
      ap (λ (o : Option (Configuration Msg)). missing (option_map_or (λ c. c) o no_configuration) q) now
      ∙ ap (λ (t : ℕ → Bool). filter (λ place. not (t place)) (above_up_to 0 (length C.ordered))) (λ i place. got-other p q apart xs C.received place i)
      ∙ sym (ap (λ (o : Option (Configuration Msg)). missing (option_map_or (λ c. c) o no_configuration) q) (ap (at_place k.configurations) same ∙ there))))
      (λ n. ap (λ (o : Option (Configuration Msg)). missing (option_map_or (λ c. c) o no_configuration) q)
      (at_place-changed (λ old. after) k.configurations conf conf' ∙ cond-false (conf' == conf) (option_map (λ old. after) (at_place k.configurations conf')) (at_place k.configurations conf') n))
      (cases_Bool (conf' == conf)) where
        after : Configuration Msg
        after = with_receipts (fold (gets p) C.received xs)

  pub fits-after : (xs : List ℕ) → Fits k → Fits (received_so (fold (gets p) C.received xs))
  unfolding set_configuration
  fits-after xs each = fit-changed k.configurations conf (with_receipts (fold (gets p) C.received xs))
      (record { rising = rising-all p xs C.received fit.rising; long = length-all p xs C.received ∙ fit.long }) each
