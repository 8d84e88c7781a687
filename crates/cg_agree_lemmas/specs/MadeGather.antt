-- The step of a gathering is made of small steps: all messages get their places, and each regular member receives what it lacks.
use Rattle.std.proofs.Common.{◌≡◌, ℕ, suc, ◌-◌, ◌≤◌, true, not, List, [], ◌∷◌, ◌++◌, Option, Some, None, map, filter, fold, flat_map, length, refl, sym, ap, ◌∙◌, subst, arith, eq-eqb}
use Rattle.std.specs.Prelude.{◌==◌}
use Rattle.std.specs.Option.{option_map_or}
use Rattle.std.proofs.lemmas.Bool.{or_right}
use Rattle.cg_base.specs.Lists.{at_place, above_up_to}
use Rattle.cg_base.specs.Sets.{has}
use Rattle.cg_wire.specs.declared.message.Msg.{Msg}
use Rattle.cg_group.specs.declared.phase.Phase.{Phase}
use Rattle.cg_group.specs.declared.phase.Phase.TheVariants.{Down}
use Rattle.cg_group.specs.State.{Standing, Configuration, GroupState, no_configuration, standing_of, configuration, phase_of, regular_in, is_regular, home, has_received, set_configuration}
use Rattle.cg_group.specs.Events.{order_all, receive, receive_all, regulars, gather}
use Rattle.cg_schedule.specs.declared.event.Event.TheVariants.{Gather}
use Rattle.cg_model.specs.World.{World}
use Rattle.cg_model.specs.Show.{ended}
use Rattle.cg_model.specs.Step.{happens, world_step}
use Rattle.cg_model.specs.Small.{Receives}
use Rattle.cg_model.specs.Smalls.{missing, order_steps, receive_steps, smalls_in}
use Rattle.cg_model.specs.FactsLists.{IsRising}
use Rattle.cg_agree_lemmas.specs.GroupChanges.{DoRise}
use Rattle.cg_agree_lemmas.specs.GatherReceipts.{gets, lacks, IsReached}
use Rattle.cg_agree_lemmas.specs.GatherOrders.{orders-all}
use Rattle.cg_agree_lemmas.specs.GatherPlaces.{rising-regulars, IsRegularAt, regular-at, IsFit, Fits, fit-at, all-fit, received_so, as-it-is, receives-all, receives-lacked, missing-other, fits-after}
use Rattle.cg_agree_lemmas.specs.MadeQuietly.{IsMadeIn, same-worlds}
use Rattle.cg_agree_lemmas.specs.SmallWorlds.{grouped, played_in, MayIn, played-append, may-append}

conf-of : (k : GroupState Msg) (conf : ℕ) → configuration k conf ≡ option_map_or (λ c. c) (at_place k.configurations conf) no_configuration
unfolding configuration
conf-of k conf = refl

standing-so : (k : GroupState Msg) (conf : ℕ) (c : Configuration Msg) (q : ℕ) → standing_of (set_configuration k conf c) q ≡ standing_of k q
unfolding set_configuration standing_of
standing-so k conf c q = refl

rises-so : (k : GroupState Msg) (conf : ℕ) (c : Configuration Msg) → DoRise k → DoRise (set_configuration k conf c)
unfolding set_configuration
rises-so k conf c rises = rises

-- a member receives what it lacks, and nothing is changed of another
pub record DoesReceive (w : World) (k : GroupState Msg) (p : ℕ) : Type 0 where
  pub may : MayIn (grouped w k) (map (Receives p) (missing (home k p) p))
  pub leads : played_in (grouped w k) (map (Receives p) (missing (home k p) p)) ≡ grouped w (receive_all k p)
  pub standings : (q : ℕ) → standing_of (receive_all k p) q ≡ standing_of k q
  pub rises : DoRise (receive_all k p)
  pub fits : Fits (receive_all k p)
  pub others : (q conf : ℕ) → (q ≡ p → ⊥) → missing (configuration (receive_all k p) conf) q ≡ missing (configuration k conf) q

does-receive : (w : World) (k : GroupState Msg) (p : ℕ) → DoRise k → Fits k → IsRegularAt k p → DoesReceive w k p
unfolding receive_all has_received
does-receive w k p rises fits at = there (at_place k.configurations (regular_in s.phase)) refl where
  s : Standing Msg
  s = at.standing

  home_at : home k p ≡ configuration k (regular_in s.phase)
  home_at = ap (λ (o : Option (Standing Msg)). configuration k (regular_in (option_map_or (λ s. s.phase) o Down))) at.is

  there : (o : Option (Configuration Msg)) → at_place k.configurations (regular_in s.phase) ≡ o → DoesReceive w k p
  there None e =
      let empty : home k p ≡ no_configuration = home_at ∙ conf-of k (regular_in s.phase) ∙ ap (λ (o : Option (Configuration Msg)). option_map_or (λ c. c) o no_configuration) e in
      let none : missing (home k p) p ≡ [] = ap (λ c. missing c p) empty in
      let still : receive_all k p ≡ k = ap (λ (c : Configuration Msg). fold (λ g place. receive g p place) k (above_up_to 0 (length c.ordered))) empty in
      record {
        may = rw none tt;
        leads = ap (λ list. played_in (grouped w k) (map (Receives p) list)) none ∙ ap (grouped w) (sym still);
        standings = λ q. ap (λ g. standing_of g q) still;
        rises = subst DoRise (sym still) rises;
        fits = subst Fits (sym still) fits;
        others = λ q conf apart. ap (λ g. missing (configuration g conf) q) still;
      }
  there (Some C) e =
      let conf = regular_in s.phase in
      let is_home : home k p ≡ C = home_at ∙ conf-of k conf ∙ ap (λ (o : Option (Configuration Msg)). option_map_or (λ c. c) o no_configuration) e in
      let fit : IsFit C = subst IsFit (ap (λ (o : Option (Configuration Msg)). option_map_or (λ c. c) o no_configuration) e) (fit-at k.configurations conf fits) in
      let xs = above_up_to 0 (length C.ordered) in
      let start = as-it-is w k p s at.is at.regular C e fit in
      let behind : receive_all k p ≡ received_so w k p s at.is at.regular C e fit (fold (gets p) C.received xs) =
      ap (λ (c : Configuration Msg). fold (λ g place. receive g p place) k (above_up_to 0 (length c.ordered))) is_home
      ∙ ap (λ g. fold (λ g place. receive g p place) g xs) (sym start) ∙ receives-all w k p s at.is at.regular C e fit xs C.received in
      let reached : IsReached p C.received C.received 0 = record { rising = fit.rising; long = refl; below = λ place some le. absurd (omega arith); above = λ place more. refl } in
      let all = receives-lacked w k p s at.is at.regular C e fit (length C.ordered - 0) 0 C.received reached (let same : length C.received ≡ length C.ordered = fit.long in omega arith) in
      let steps : map (Receives p) (missing (home k p) p) ≡ map (Receives p) (filter (lacks p C.received) xs) = ap (λ c. map (Receives p) (missing c p)) is_home in
      let began = ap (grouped w) start in
      record {
        may = rw steps (subst (λ v. MayIn v (map (Receives p) (filter (lacks p C.received) xs))) began all.0);
        leads = ap (played_in (grouped w k)) steps ∙ ap (λ v. played_in v (map (Receives p) (filter (lacks p C.received) xs))) (sym began) ∙ all.1 ∙ ap (grouped w) (sym behind);
        standings = λ q. ap (λ g. standing_of g q) behind ∙ standing-so k conf (record C { received = fold (gets p) C.received xs }) q;
        rises = subst DoRise (sym behind) (rises-so k conf (record C { received = fold (gets p) C.received xs }) rises);
        fits = subst Fits (sym behind) (fits-after w k p s at.is at.regular C e fit xs fits);
        others = λ q other apart. ap (λ g. missing (configuration g other) q) behind ∙ missing-other w k p s at.is at.regular C e fit q other apart xs;
      }

-- each in its turn
receives-each : (w : World) (h : GroupState Msg) (ps : List ℕ) (low : ℕ) → IsRising low ps → (k : GroupState Msg) → DoRise k → Fits k →
    ((q : ℕ) → has ps q ≡ true → IsRegularAt h q) → ((q : ℕ) → standing_of k q ≡ standing_of h q) → ((q conf : ℕ) → low ≤ q → missing (configuration k conf) q ≡ missing (configuration h conf) q) →
    (let steps = flat_map (λ p. map (Receives p) (missing (home h p) p)) ps in MayIn (grouped w k) steps × (played_in (grouped w k) steps ≡ grouped w (fold receive_all k ps)))
receives-each w h [] low rise k rises fits regular same lacks = (tt, refl)
receives-each w h (p ∷ ps) low rise k rises fits regular same lacks =
    let at_h = regular p (first p ps) in
    let at_k : IsRegularAt k p = record { standing = at_h.standing; is = same p ∙ at_h.is; regular = at_h.regular } in
    let one = does-receive w k p rises fits at_k in
    let next = receive_all k p in
    let rest = receives-each w h ps (suc p) rise.1 next one.rises one.fits (λ q there. regular q (or_right (p == q) (has ps q) there)) (λ q. one.standings q ∙ same q)
    (λ q conf above. one.others q conf (λ e. (let is : q ≡ p = e in omega arith)) ∙ lacks q conf (let le : low ≤ p = rise.0 in omega arith)) in
    let phase : phase_of k p ≡ phase_of h p = ap (λ (o : Option (Standing Msg)). option_map_or (λ s. s.phase) o Down) (same p) in
    let steps : map (Receives p) (missing (home h p) p) ≡ map (Receives p) (missing (home k p) p) =
    ap (map (Receives p)) (sym (lacks p (regular_in (phase_of h p)) rise.0) ∙ ap (λ (x : Phase). missing (configuration k (regular_in x)) p) (sym phase)) in
    let more = flat_map (λ p. map (Receives p) (missing (home h p) p)) ps in
    let mine = map (Receives p) (missing (home k p) p) in
    rw steps (
      may-append (grouped w k) mine more one.may (subst (λ v. MayIn v more) (sym one.leads) rest.0),
      played-append (grouped w k) mine more ∙ ap (λ v. played_in v more) one.leads ∙ rest.1,
    ) where
      first : (p : ℕ) (ps : List ℕ) → has (p ∷ ps) p ≡ true
      first p ps = rw (eq-eqb p p refl) refl

pub gather-made : (w : World) → DoRise w.group → Fits w.group → IsMadeIn w Gather
unfolding world_step happens smalls_in ended gather
gather-made w rises fits =
    let g = w.group in
    let ps = regulars g in
    let h = fold order_all g ps in
    let orders = orders-all w g ps 0 (rising-regulars g rises) (λ p there. is-regular (regular-at g p rises there)) g (λ q above. refl) in
    let fit = all-fit ps g (rises, fits) in
    let receipts = receives-each w h (regulars h) 0 (rising-regulars h fit.0) h fit.0 fit.1 (λ q there. regular-at h q fit.0 there) (λ q. refl) (λ q conf above. refl) in
    let first = order_steps g in
    let second = receive_steps h in
    let leads : played_in w (first ++ second) ≡ grouped w (fold receive_all h (regulars h)) =
    played-append w first second ∙ ap (λ v. played_in v second) orders.1 ∙ receipts.1 in (
      may-append w first second orders.0 (subst (λ v. MayIn v second) (sym orders.1) receipts.0),
      same-worlds (played_in w (first ++ second)) (world_step w Gather).world (ap (λ (v : World). v.group) leads) (ap (λ (v : World). v.nodes) leads) (ap (λ (v : World). v.snapshots) leads),
    ) where
      is-regular : {g : GroupState Msg} {p : ℕ} → IsRegularAt g p → is_regular g p ≡ true
      is-regular at = ap (λ (o : Option (Standing Msg)). not (regular_in (option_map_or (λ s. s.phase) o Down) == 0)) at.is ∙ ap not at.regular
