-- Behind an event the greens of a replica that took a turn in it and runs on are those before it, and what became green in the turn.
use Rattle.std.proofs.Common.{◌≡◌, ℕ, suc, Bool, true, false, cond, List, [], ◌∷◌, ◌++◌, drop, length, Option, Some, None, IfSome, is_some, refl, sym, ap, ◌∙◌, subst, option_and_then, option_map, eq-eqb, append_assoc, append-nil}
use Rattle.std.specs.Prelude.{◌==◌}
use Rattle.std.specs.Option.{option_map_or}
use Rattle.std.proofs.lemmas.Bool.{cond-true}
use Rattle.cg_action.specs.declared.action.Action.{Action}
use Rattle.cg_group.specs.declared.delivery.Delivery.TheVariants.{Transitional as TransitionalIn, Regular as RegularIn}
use Rattle.cg_group.specs.State.{home, regular_in, phase_of, delivered_to, configuration}
use Rattle.cg_group.specs.Events.{delivery_at, deliveries_at}
use Rattle.cg_base.specs.Lists.{Each}
use Rattle.cg_client.specs.Replica.{State, RegPrim, TransPrim, ExchangeStates, ExchangeActions, Construct, No, Un, NonPrim, Left, Replica}
use Rattle.cg_client.specs.Turn.{Turn, begin}
use Rattle.cg_client.specs.Requests.{is_creating, create, create_kept, empty_buffer, buffer, settle, request_in}
use Rattle.cg_action.specs.declared.action.Kind.{Kind}
use Rattle.cg_disk_records.specs.Crash.{Disk}
use Rattle.cg_model.specs.World.{NodeState, Up, Down, Node, World, running, node_of, replica_of}
use Rattle.cg_model.specs.Chronicle.{Past, Chronicle}
use Rattle.cg_model.specs.Looks.{past_of, greens_of}
use Rattle.cg_model.specs.Small.{Small, Starts, Makes, Enters, Orders, Receives, Hands, Leaves, Asks, Settles, Commits, Crashes, Recovers, Copies, Joins, newly_green, with_greens, after_turn, turning, turning_as, take_newest, take_next, take_parting, take_request, newest_conf, coming, handed_next, leaving, small_step}
use Rattle.cg_model.specs.Noting.{played}
use Rattle.cg_model.specs.Played.{IsSame}
use Rattle.cg_agree_lemmas.specs.ChronicleFacts.{node_of-set, past_of-turn}
use Rattle.cg_agree_lemmas.specs.SameSmalls.{played-same}
use Rattle.cg_agree_lemmas.specs.SmallWorlds.{played_in, played-world}
use Rattle.cg_agree_lemmas.specs.GreenMembers.{FollowsGreens, follows-first, follows-same, takes-follow, creates-same, drop-front}
use Rattle.cg_agree_lemmas.specs.TurnAlong.{IsPartOf, Keeps, GreensKeep, RunsThrough}
use Rattle.cg_agree_lemmas.specs.TurnGreens.{played-both}

-- a part of a turn makes further actions green
abbrev pub MakesGreen : (Turn → Turn) → Type 0
MakesGreen part = (r : Replica) → FollowsGreens r.held (part (begin r)).replica.held

-- a replica has come so far: it had these greens, of which it kept these
pub record IsAhead (all kept : List Action) (c : Chronicle) (p : ℕ) : Type 0 where
  pub past : Past
  pub found : past_of c p ≡ Some past
  pub more : List Action
  pub greens : past.greens ≡ all ++ more
  pub held : IfSome (replica_of c.world p) (λ r. r.held.queue.greens ≡ kept ++ more)

asked-follow : (kind : Kind) → MakesGreen (take_request kind)
asked-follow kind r = at r.state where
  kept : FollowsGreens r.held (buffer (begin r) kind).replica.held
  kept = follows-same r.held r.held _ (record { greens = refl; members = refl; white = refl }) (follows-first r.held)

  made : FollowsGreens r.held (create (begin r) kind).replica.held
  made = follows-same r.held r.held _ (creates-same (kind ∷ []) (begin r)) (follows-first r.held)

  at : (state : State) → FollowsGreens r.held (request_in state (begin r) kind).replica.held
  at RegPrim = made
  at (NonPrim true) = made
  at Left = follows-first r.held
  at TransPrim = kept
  at (ExchangeStates conf set heard) = kept
  at (ExchangeActions conf heard accepted) = kept
  at (Construct conf heard) = kept
  at (No conf heard) = kept
  at Un = kept
  at (NonPrim false) = kept

settled-follow : MakesGreen settle
unfolding create_kept
settled-follow r = at (is_creating r.state) where
  at : (b : Bool) → FollowsGreens r.held (cond b (create_kept (begin r)) (begin r)).replica.held
  at true = follows-same r.held r.held _ (let same = creates-same r.held.buffered (empty_buffer (begin r)) in record { greens = same.greens; members = same.members; white = same.white }) (follows-first r.held)
  at false = follows-first r.held

module _ (all kept : List Action) (p : ℕ) where
  ahead-turn : (c : Chronicle) (r : Replica) (disk : Disk) (part : Turn → Turn) → MakesGreen part → replica_of c.world p ≡ Some r → IsAhead all kept c p → IsAhead all kept (after_turn c p r disk (part (begin r))) p
  ahead-turn c r disk part grows runs is =
      let t = part (begin r) in
      let follows = grows r in
      let was : r.held.queue.greens ≡ kept ++ is.more = subst (λ (o : Option Replica). IfSome o (λ r. r.held.queue.greens ≡ kept ++ is.more)) runs is.held in
      let new : newly_green r t.replica ≡ follows.more = ap (drop (length r.held.queue.greens)) follows.greens ∙ drop-front r.held.queue.greens follows.more in
      let d = after_turn c p r disk t in
      let node : node_of d.world p ≡ Some (record { id = p; life = Up t.replica disk }) =
      node_of-set c.world p (Up t.replica disk) p ∙ cond-true (p == p) (Some (let s : Node = record { id = p; life = Up t.replica disk } in s)) (node_of c.world p) (eq-eqb p p refl) in
      record {
        past = with_greens (newly_green r t.replica) is.past;
        found = past_of-turn c p r disk t p ∙ cond-true (p == p) (option_map (with_greens (newly_green r t.replica)) (past_of c p)) (past_of c p) (eq-eqb p p refl)
            ∙ ap (option_map (with_greens (newly_green r t.replica))) is.found;
        more = is.more ++ follows.more;
        greens = ap (λ xs. is.past.greens ++ xs) new ∙ ap (λ xs. xs ++ follows.more) is.greens ∙ append_assoc all is.more follows.more;
        held = subst (λ (o : Option Replica). IfSome o (λ r. r.held.queue.greens ≡ kept ++ (is.more ++ follows.more))) (sym (ap (λ (o : Option Node). option_and_then (λ s. running s.life) o) node))
            (follows.greens ∙ ap (λ xs. xs ++ follows.more) was ∙ append_assoc kept is.more follows.more);
      }

  ahead-turning : (c : Chronicle) (part : Turn → Turn) → MakesGreen part → IsAhead all kept c p → IsAhead all kept (turning c p part) p
  ahead-turning c part grows is = at (node_of c.world p) refl where
    life : (l : NodeState) → replica_of c.world p ≡ running l → IsAhead all kept (turning_as c p part l) p
    life (Up r disk) runs = ahead-turn c r disk part grows runs is
    life (Down disk green) runs = is

    at : (o : Option Node) → node_of c.world p ≡ o → IsAhead all kept (option_map_or (λ s. turning_as c p part s.life) o c) p
    at None e = is
    at (Some s) e = life s.life (ap (λ (o : Option Node). option_and_then (λ s. running s.life) o) e)

  -- the same replica and the same past
  ahead-same : (c d : Chronicle) → past_of d p ≡ past_of c p → replica_of d.world p ≡ replica_of c.world p → IsAhead all kept c p → IsAhead all kept d p
  ahead-same c d past runs is = record {
    past = is.past;
    found = past ∙ is.found;
    more = is.more;
    greens = is.greens;
    held = subst (λ (o : Option Replica). IfSome o (λ r. r.held.queue.greens ≡ kept ++ is.more)) (sym runs) is.held;
  }

  ahead-part : (s : Small) → IsPartOf p s → (c : Chronicle) → IsAhead all kept c p → IsAhead all kept (small_step c s) p
  unfolding small_step
  ahead-part (Enters q) of c is =
      let part = take_newest c.world.group in
      subst (λ n. IsAhead all kept (turning (coming c n) n part) p) (sym of) (ahead-turning (coming c p) part (λ r. (let conf = newest_conf c.world.group in takes-follow r (RegularIn conf (configuration c.world.group conf).members ∷ []))) (ahead-same c (coming c p) refl refl is))
  ahead-part (Hands q) of c is =
      subst (λ n. IsAhead all kept (turning (handed_next c n) n (take_next c.world.group n)) p) (sym of)
      (ahead-turning (handed_next c p) (take_next c.world.group p) (λ r. takes-follow r (delivery_at (home c.world.group p) (suc (delivered_to c.world.group p)))) (ahead-same c (handed_next c p) refl refl is))
  ahead-part (Leaves q set own places) of c is =
      subst (λ n. IsAhead all kept (turning (leaving c n set own) n (take_parting c.world.group n set places)) p) (sym of)
      (ahead-turning (leaving c p set own) (take_parting c.world.group p set places) (λ r. takes-follow r (TransitionalIn (regular_in (phase_of c.world.group p)) set ∷ deliveries_at (home c.world.group p) places)) (ahead-same c (leaving c p set own) refl refl is))
  ahead-part (Asks q kind) of c is = subst (λ n. IsAhead all kept (turning c n (take_request kind)) p) (sym of) (ahead-turning c (take_request kind) (asked-follow kind) is)
  ahead-part (Settles q) of c is = subst (λ n. IsAhead all kept (turning c n settle) p) (sym of) (ahead-turning c settle settled-follow is)
  ahead-part (Starts set) of c is = absurd of
  ahead-part (Makes set) of c is = absurd of
  ahead-part (Orders q) of c is = absurd of
  ahead-part (Receives q place) of c is = absurd of
  ahead-part (Commits q) of c is = absurd of
  ahead-part (Crashes q) of c is = absurd of
  ahead-part (Recovers q) of c is = absurd of
  ahead-part (Copies q joiner) of c is = absurd of
  ahead-part (Joins joiner) of c is = absurd of

  ahead-parts : (smalls : List Small) → Each (IsPartOf p) smalls → (c : Chronicle) → IsAhead all kept c p → IsAhead all kept (played c smalls) p
  ahead-parts [] parts c is = is
  ahead-parts (s ∷ smalls) parts c is = ahead-parts smalls parts.1 (small_step c s) (ahead-part s parts.0 c is)

  ahead-others : (smalls : List Small) → Each (Keeps p) smalls → (c : Chronicle) → IsAhead all kept c p → IsAhead all kept (played c smalls) p
  ahead-others [] keeps c is = is
  ahead-others (s ∷ smalls) keeps c is =
      let one = keeps.0 c in
      ahead-others smalls keeps.1 (small_step c s) (ahead-same c (small_step c s) one.past (ap (λ (o : Option Node). option_and_then (λ s. running s.life) o) one.node) is)

greens-kept : (p : ℕ) (smalls : List Small) → Each (GreensKeep p) smalls → (c : Chronicle) → greens_of (played c smalls) p ≡ greens_of c p
greens-kept p [] keeps c = refl
greens-kept p (s ∷ smalls) keeps c = greens-kept p smalls keeps.1 (small_step c s) ∙ keeps.0 c

rest-same : (kept xs ys : List Action) → kept ++ xs ≡ kept ++ ys → xs ≡ ys
rest-same kept xs ys e = sym (drop-front kept xs) ∙ ap (drop (length kept)) e ∙ drop-front kept ys

-- Behind steps through which a replica's turn runs, its greens have what became green in the turn.
pub greens-through : (c : Chronicle) (w : World) (smalls : List Small) (p : ℕ) (r : Replica) (t : Turn) (more : List Action) → IsSame w c.world → is_some (past_of c p) ≡ true → replica_of c.world p ≡ Some r →
    t.replica.held.queue.greens ≡ r.held.queue.greens ++ more → RunsThrough w smalls p t → greens_of (played c smalls) p ≡ greens_of c p ++ more
greens-through c w smalls p r t more same some runs grows is = at (past_of c p) refl some where
  kept : List Action
  kept = r.held.queue.greens

  front : List Small
  front = is.before ++ is.block

  at : (o : Option Past) → past_of c p ≡ o → is_some o ≡ true → greens_of (played c smalls) p ≡ greens_of c p ++ more
  at None e there = absurd (let clash : false ≡ true = there in cc)
  at (Some x) e there =
      let first : IsAhead x.greens kept c p = record {
        past = x;
        found = e;
        more = [];
        greens = sym (append-nil x.greens);
        held = subst (λ (o : Option Replica). IfSome o (λ r. r.held.queue.greens ≡ kept ++ [])) (sym runs) (sym (append-nil kept));
      } in
      let mid = ahead-others x.greens kept p is.before is.apart c first in
      let ahead = ahead-parts x.greens kept p is.block is.parts (played c is.before) mid in
      let world : (played (played c is.before) is.block).world ≡ played_in c.world front = ap (λ (y : Chronicle). y.world) (sym (played-both is.before is.block c)) ∙ played-world c front in
      let now : replica_of (played (played c is.before) is.block).world p ≡ Some t.replica =
      ap (λ (v : World). replica_of v p) world ∙ sym ((played-same front w c.world same).running p) ∙ is.replica in
      let held : t.replica.held.queue.greens ≡ kept ++ ahead.more = subst (λ (o : Option Replica). IfSome o (λ r. r.held.queue.greens ≡ kept ++ ahead.more)) now ahead.held in
      let one : ahead.more ≡ more = rest-same kept ahead.more more (sym held ∙ grows) in
      let steps : played c smalls ≡ played (played (played c is.before) is.block) is.rest = ap (played c) is.is ∙ played-both is.before (is.block ++ is.rest) c ∙ played-both is.block is.rest (played c is.before) in
      ap (λ (y : Chronicle). greens_of y p) steps ∙ greens-kept p is.rest is.ends (played (played c is.before) is.block)
      ∙ ap (λ (o : Option Past). option_map_or (λ y. y.greens) o []) ahead.found ∙ ahead.greens ∙ ap (λ xs. x.greens ++ xs) one
      ∙ ap (λ (o : Option Past). option_map_or (λ y. y.greens) o [] ++ more) (sym e)
