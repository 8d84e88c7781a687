-- The logs that a run shows are parts of its order.
use Rattle.std.proofs.Common.{◌≡◌, ℕ, zero, suc, ◌<◌, List, [], ◌∷◌, ◌++◌, map, length, Some, None, Contains, refl, sym, ap, ◌∙◌, subst, arith, append_assoc}
use Rattle.std.proofs.lemmas.List.Elements.{Contains-append_right}
use Rattle.cg_base.specs.declared.action_id.ActionId.{ActionId}
use Rattle.cg_base.specs.Lists.{present, at_place, Each}
use Rattle.cg_base.specs.EachLaws.{Each-append}
use Rattle.cg_report.specs.declared.entry.Shown.{Shown}
use Rattle.cg_report.specs.declared.entry.Shown.TheVariants.{Weak, Dirty, Pieces, Greens, Database, All}
use Rattle.cg_model.specs.Run.{Step}
use Rattle.cg_model.specs.Shown.{order_of, position_of, white_of}
use Rattle.cg_model.specs.Agreement.{through, Prefix}
use Rattle.cg_model.specs.EveryRun.{EveryRunAgrees}
use Rattle.cg_terms.specs.Terms.{AgreementGuarantees}
use Rattle.cg_compare.specs.declared.log.Log.{Log}
use Rattle.cg_compare.specs.declared.log.Joined.TheVariants.{Agree}
use Rattle.cg_compare.specs.Join.{covered, join_logs}
use Rattle.cg_compare.specs.Orders.{AgreesWith, IsOrderOf}
use Rattle.cg_compare.specs.Places.{last_place, name_at}
use Rattle.cg_items.specs.LogsShown.{log_of, logs_from, is_agreement}
use Rattle.cg_items_agree.specs.ShownLogs.{ShownLogsAgree}
use Rattle.cg_items_agree.proofs.AtPlaces.{part-at, no-repeats}
use Rattle.cg_base.specs.ElementLaws.{each-contains}
use Rattle.cg_model.specs.RunLaws.{order-append}

module _ (all : List Step) (prefix : Prefix all) where
  -- what a step shows of a replica's greens
  IsShownWith : List Step → List Shown → Type 0
  IsShownWith now shown = (p : ℕ) (list : List ActionId) → Contains shown (Greens p list) → AgreesWith (order_of all) (record { line = length now; white = white_of p now; list = list })

  later : (now : List Step) (x : Shown) (shown : List Shown) → IsShownWith now (x ∷ shown) → IsShownWith now shown
  unfolding IsShownWith
  later now x shown is p list there = is p list (Contains-append_right (x ∷ []) shown (Greens p list) there)

  shown-agree : (now : List Step) (shown : List Shown) → IsShownWith now shown →
      Each (AgreesWith (order_of all)) (present (map (log_of now) shown))
  unfolding IsShownWith
  shown-agree now [] is = tt
  shown-agree now (Greens p list ∷ shown) is = (
    is p list (zero, (let less : 0 < suc (length shown) = omega arith in less), refl),
    shown-agree now shown (later now (Greens p list) shown is),
  )
  shown-agree now (Weak p a ∷ shown) is = shown-agree now shown (later now (Weak p a) shown is)
  shown-agree now (Dirty p a ∷ shown) is = shown-agree now shown (later now (Dirty p a) shown is)
  shown-agree now (Pieces p k n ∷ shown) is = shown-agree now shown (later now (Pieces p k n) shown is)
  shown-agree now (Database p db ∷ shown) is = shown-agree now shown (later now (Database p db) shown is)
  shown-agree now (All list ∷ shown) is = shown-agree now shown (later now (All list) shown is)

  logs-agree : (earlier steps : List Step) → all ≡ earlier ++ steps →
      Each (AgreesWith (order_of all)) (logs_from earlier steps)
  unfolding IsShownWith
  logs-agree earlier [] is = tt
  logs-agree earlier (s ∷ steps) is =
      let now = through earlier s in
      let goes_on : all ≡ now ++ steps = is ∙ sym (append_assoc earlier (s ∷ []) steps) in
      Each-append (AgreesWith (order_of all)) (present (map (log_of now) s.entry.shown)) (logs_from now steps)
      (shown-agree now s.entry.shown (λ p list there place id named.
      subst (λ (order : List ActionId). at_place order place ≡ Some id) (sym (ap order_of goes_on ∙ order-append now steps))
      (part-at (white_of p now) (position_of p now) place (order_of now) (order_of steps) id
      (subst (λ (ids : List ActionId). name_at (record { line = length now; white = white_of p now; list = ids }) place ≡ Some id) (prefix.shown earlier s p list (steps, is) there) named))))
      (logs-agree now steps goes_on)

pub logs-of-run : EveryRunAgrees → AgreementGuarantees →
    ((logs : List Log) (order : List ActionId) → IsOrderOf logs order → join_logs logs ≡ Agree (last_place logs) (covered logs)) →
    ShownLogsAgree
logs-of-run agrees guarantees joins steps run =
    let agreement = agrees steps None run tt in
    let logs = logs_from [] steps in
    let of_order : IsOrderOf logs (order_of steps) = record {
      once = no-repeats (order_of steps) (guarantees steps None agreement).exactly_once.ordered;
      agrees = λ log there. each-contains (AgreesWith (order_of steps)) logs log (logs-agree steps agreement.prefix [] steps refl) there;
    } in
    ap is_agreement (joins logs (order_of steps) of_order)
