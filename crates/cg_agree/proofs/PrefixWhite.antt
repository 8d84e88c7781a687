-- No server's white count is above the prefix of another server that has begun.
use Rattle.std.proofs.Common.{◌⊎◌, ◌≡◌, ℕ, ◌<◌, ◌≤◌, true, false, List, [], ◌∷◌, take, length, sym, ap, ap₂, ◌∙◌, subst, inl, inr, arith}
use Rattle.std.specs.Prelude.{◌+◌, ◌==◌}
use Rattle.std.proofs.lemmas.Bool.{cases_Bool, cases_lt, eqb-true}
use Rattle.cg_base.specs.Lists.{Each}
use Rattle.cg_base.specs.declared.weighted.Weighted.{Weighted}
use Rattle.cg_action.specs.declared.action.Action.{Action}
use Rattle.cg_members.specs.Listed.{line_of}
use Rattle.cg_members.specs.Servers.{members_of, is_server, starting}
use Rattle.cg_queue.specs.Queue.{names_of}
use Rattle.cg_model.specs.World.{World, no_world, has_begun}
use Rattle.cg_model.specs.Run.{Step, IsRunFrom, world_after}
use Rattle.cg_model.specs.Shown.{order_of, made_actions, ordered_actions, start_of, position_of, white_of}
use Rattle.cg_model.specs.Telling.{made_of}
use Rattle.cg_model.specs.Agreement.{ComesAfter, through, is_server_at, Prefix}
use Rattle.cg_model.specs.Chronicle.{Chronicle, no_chronicle}
use Rattle.cg_model.specs.Fronts.{Front, When}
use Rattle.cg_model.specs.FactsExchange.{AreReached}
use Rattle.cg_model.specs.FactsReplica.{join_from}
use Rattle.cg_model.specs.Noting.{chronicle_after}
use Rattle.cg_model.specs.Played.{StandsBeside, AlwaysHolds}
use Rattle.cg_agree_lemmas.specs.FrontFacts.{Front-of_both, take-Front}
use Rattle.cg_agree.proofs.CreatorNumbered.{stands-of}
use Rattle.cg_agree.proofs.DownAgrees.{down-prefix}
use Rattle.cg_agree_lemmas.specs.LinesGreens.{join-within, join-front}
use Rattle.cg_agree_lemmas.specs.LinesTold.{JoinsBelow, greens-below, first-lines}
use Rattle.cg_agree.proofs.OrderedActions.{IsShownAs, each-shown_as, ordered-as, booked-front}
use Rattle.cg_agree_lemmas.specs.OrderTold.{order_told}
use Rattle.cg_agree.proofs.PrefixRun.{never-falls, moves-only, held, shown}
use Rattle.cg_agree.proofs.RunPrefix.{comes}
use Rattle.cg_agree.proofs.WhiteTold.{IsReachedLine, AreKept, are-kept}
use Rattle.cg_base.specs.ElementLaws.{each-contains}
use Rattle.cg_model.specs.RunLaws.{world-last}
use Rattle.cg_queue.specs.NameLaws.{names-count}

module _ (steps : List Step) (c : Chronicle) (w : World) (stands : StandsBeside c w) (k : AreKept steps c w) (order : w.order ≡ order_of steps) (p q : ℕ) where
  abbrev mine : List Action
  mine = (k.kept p).all

  abbrev its : List Action
  its = (k.kept q).all

  -- what was shown of its prefix
  ordered : ordered_actions steps (position_of p steps) ≡ mine
  ordered =
      let names : names_of mine ≡ take (position_of p steps) (order_of steps) =
      take-Front (names_of mine) w.order (k.kept p).front ∙ ap₂ take (names-count mine ∙ (k.kept p).count) order in
      ap (made_actions steps) (sym names) ∙ ordered-as steps c w stands k.placed.told.made mine (k.kept p).front (k.kept p).booked

  all-reached : (list : List Action) → Each (IsShownAs steps c w stands k.placed.told.made) list → AreReached q (position_of q steps) list
  all-reached [] each = tt
  all-reached (a ∷ list) each = (one (cases_Bool (a.id.creator == q)), all-reached list each.1) where
    one : ((a.id.creator == q) ≡ true) ⊎ ((a.id.creator == q) ≡ false) → When (a.id.creator == q) (a.green_line ≤ position_of q steps)
    one (inr other) = subst (λ b. When b (a.green_line ≤ position_of q steps)) (sym other) tt
    one (inl own) =
        let low : a.green_line ≤ position_of a.id.creator steps = each-contains (IsReachedLine steps) (made_of steps) a k.lined each.0.there in
        subst (λ b. When b (a.green_line ≤ position_of q steps)) (sym own) (subst (λ n. a.green_line ≤ position_of n steps) (eqb-true a.id.creator q own) low)

  -- its join is no higher
  join-low : 0 < join_from 0 its q → join_from 0 mine q ≤ position_of q steps
  join-low some =
      let count : length its ≡ position_of q steps = (k.kept q).count in
      let within : join_from 0 its q ≤ 0 + length its = join-within its 0 q in
      let sizes : (length (names_of mine) ≡ length mine) × (length (names_of its) ≡ length its) = (names-count mine, names-count its) in
      elim (cases_lt (length mine) (length its)) [
        | inr longer ↦
            let front : Front its mine =
            booked-front c.book its mine (Front-of_both (names_of its) (names_of mine) w.order (k.kept q).front (k.kept p).front (let a = sizes.0 in let b = sizes.1 in omega arith)) (k.kept q).booked (k.kept p).booked in
            let same : join_from 0 mine q ≡ join_from 0 its q = join-front its mine 0 q front some in
            omega arith
        | inl shorter ↦
            let front : Front mine its =
            booked-front c.book mine its (Front-of_both (names_of mine) (names_of its) w.order (k.kept p).front (k.kept q).front (let a = sizes.0 in let b = sizes.1 in omega arith)) (k.kept p).booked (k.kept q).booked in
            elim (cases_lt 0 (join_from 0 mine q)) [
              | inl there ↦ (let same : join_from 0 its q ≡ join_from 0 mine q = join-front mine its 0 q front there in omega arith)
              | inr none ↦ omega arith
            ]
      ]

  pub white-low : is_server_at steps p q ≡ true → has_begun w q ≡ true → white_of p steps ≤ position_of q steps
  white-low server begun =
      let start : start_of steps ≡ c.start = k.placed.told.start.start in
      let there : is_server (members_of c.start mine) q ≡ true = sym (ap₂ (λ (set : List Weighted) (list : List Action). is_server (members_of set list) q) start ordered) ∙ server in
      let above : white_of p steps ≤ line_of (members_of c.start mine).servers q = (k.kept p).white q there in
      let joins : JoinsBelow (starting c.start) 0 mine q (position_of q steps) = elim ((k.kept q).joined begun) [ inl ever ↦ inl ever | inr some ↦ inr (join-low some) ] in
      let line : line_of (members_of c.start mine).servers q ≤ position_of q steps =
      greens-below mine (starting c.start) 0 q (position_of q steps) joins (all-reached mine (each-shown_as steps c w stands k.placed.told.made mine (k.kept p).front (k.kept p).booked))
      (let none = first-lines c.start q in omega arith) in
      omega arith

pub white : AlwaysHolds → (steps : List Step) → IsRunFrom no_world steps → (earlier : List Step) (s : Step) (p q : ℕ) → ComesAfter steps earlier s → is_server_at (through earlier s) p q ≡ true → has_begun s.world q ≡ true →
    white_of p (through earlier s) ≤ position_of q (through earlier s)
white always steps run earlier s p q after server begun =
    let at = comes always steps run earlier s after in
    let now = through earlier s in
    let c = chronicle_after no_chronicle no_world now in
    let w = world_after no_world now in
    white-low now c w (stands-of always now at.upto) (are-kept always now at.upto) (order_told no_world now at.upto) p q server (ap (λ (v : World). has_begun v q) (world-last no_world earlier s) ∙ begun)

-- Each replica's greens are a prefix of the order.
pub prefix : AlwaysHolds → (steps : List Step) → IsRunFrom no_world steps → Prefix steps
prefix always steps run = record {
  never_falls = never-falls always steps run;
  moves_only = moves-only always steps run;
  shown = shown always steps run;
  held = held always steps run;
  down = down-prefix always steps run;
  white = white always steps run;
}
