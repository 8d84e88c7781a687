-- The items of `sessions`, one behind the other: what is held behind any front of them.
use Rattle.std.proofs.Common.{◌≡◌, ℕ, suc, Bool, ◌||◌, IfSome, List, [], ◌∷◌, ◌++◌, map, refl, sym, ap, subst, ◌∙◌, append-nil, append_assoc}
use Rattle.cg_base.specs.declared.action_id.ActionId.{ActionId}
use Rattle.cg_base.specs.Lists.{present}
use Rattle.cg_model.specs.World.{World, no_world}
use Rattle.cg_model.specs.Run.{IsRunFrom}
use Rattle.cg_model.specs.Shown.{made_names}
use Rattle.cg_session_list.specs.declared.session.Session.{Session}
use Rattle.cg_session_list.specs.declared.session_line.SessionLine.{SessionLine}
use Rattle.cg_items.specs.declared.companion.Companion.{Companion}
use Rattle.cg_items.specs.declared.companion.Companion.TheVariants.{Sessions as OfSessions}
use Rattle.cg_items.specs.AfterItems.{ItemAfter, world_behind, order_behind}
use Rattle.cg_items.specs.Companion.{Noted}
use Rattle.cg_items.specs.Items.{Item, steps_of}
use Rattle.cg_items.specs.Kept.{noted_by, next_world, kept_behind, IsTaken, AreNoted}
use Rattle.cg_items.specs.SessionsAgree.{session_line, session_lines, session_event_of, opens, was_opened, replied_to, lines_due}
use Rattle.cg_items_agree.proofs.SessionsHolding.{HoldsIn, holds-first}
use Rattle.cg_items_agree.proofs.SessionsBehind.{Laws}
use Rattle.cg_items_agree.proofs.SessionsItems.{order_by, made_by, replied_by, lines-append, lines-one, plain-lines, opened-next, order-next, made-next, replies-next, world-next}
use Rattle.cg_items_agree.proofs.SessionsNoted.{Holds, due_of, comes}
use Rattle.cg_items.specs.ItemLaws.{steps-append}
use Rattle.cg_model.specs.RunLaws.{front-run}

-- the steps of the first items are a run
pub front-items : (earlier later : List Item) → IsRunFrom no_world (steps_of (earlier ++ later)) → IsRunFrom no_world (steps_of earlier)
front-items earlier later run = front-run no_world (steps_of earlier) (steps_of later) (subst (IsRunFrom no_world) (steps-append earlier later) run)

-- what an item comes to, and what is held behind it
pub record Goes (earlier : List Item) (open_ : List Session) (i : Item) : Type 0 where
  pub later : List Session
  pub kept : (noted_by (world_behind earlier) (OfSessions open_) i.further i.step).companion ≡ OfSessions later
  pub lines : session_lines (i ∷ []) ≡ lines_due earlier i
  pub holds : Holds (earlier ++ i ∷ []) later

-- the same, where each part is another one that is equal
moved : (earlier : List Item) (i : Item) (open_ : List Session) (lines : List SessionLine) (made order replied : List ActionId) →
    lines ≡ session_lines (earlier ++ i ∷ []) → made ≡ made_names (steps_of (earlier ++ i ∷ [])) → order ≡ order_behind (earlier ++ i ∷ []) → replied ≡ replied_to (earlier ++ i ∷ []) →
    HoldsIn lines (λ s. was_opened s earlier || opens s (session_event_of i)) made order replied open_ → Holds (earlier ++ i ∷ []) open_
moved earlier i open_ lines made order replied same_lines same_made same_order same_replied is =
    let opened : ℕ → Bool = λ s. was_opened s earlier || opens s (session_event_of i) in
    let now =
    subst (λ xs. HoldsIn (session_lines (earlier ++ i ∷ [])) opened (made_names (steps_of (earlier ++ i ∷ []))) (order_behind (earlier ++ i ∷ [])) xs open_) same_replied
    (subst (λ xs. HoldsIn (session_lines (earlier ++ i ∷ [])) opened (made_names (steps_of (earlier ++ i ∷ []))) xs replied open_) same_order
    (subst (λ xs. HoldsIn (session_lines (earlier ++ i ∷ [])) opened xs order replied open_) same_made (subst (λ xs. HoldsIn xs opened made order replied open_) same_lines is))) in
    record { told = now.told; stands = λ s. now.stands s ∙ sym (opened-next s earlier i); known = now.known; placed = now.placed; was_made = now.was_made; held = now.held }

module _ (laws : Laws) where
  pub goes : (earlier : List Item) (open_ : List Session) (i : Item) → Holds earlier open_ → IfSome i.further (IsTaken (world_behind earlier) (OfSessions open_) i.step) →
      i.lines ≡ (noted_by (world_behind earlier) (OfSessions open_) i.further i.step).lines → IsRunFrom no_world (steps_of (earlier ++ i ∷ [])) → Goes earlier open_ i
  goes earlier open_ i h taken lines run =
      let c = comes laws earlier open_ h i.further i.step taken (subst (IsRunFrom no_world) (steps-append earlier (i ∷ [])) run) in
      let here : session_lines (i ∷ []) ≡ c.noted.lines =
      lines-one i ∙ ap (λ ls. present (map session_line ls)) (lines ∙ ap (λ (n : Noted). n.lines) c.same) ∙ plain-lines c.noted.lines in
      let all : session_lines (earlier ++ i ∷ []) ≡ session_lines earlier ++ c.noted.lines = lines-append earlier (i ∷ []) ∙ ap (λ ls. session_lines earlier ++ ls) here in
      record {
        later = c.noted.sessions;
        kept = ap (λ (n : Noted). n.companion) c.same;
        lines = here ∙ c.lines ∙ ap (due_of earlier i.further i.step) (sym (order-next earlier i));
        holds = moved earlier i c.noted.sessions (session_lines earlier ++ c.noted.lines) (made_by i.step (made_names (steps_of earlier))) (order_by i.step (order_behind earlier))
            (replied_by i.step (replied_to earlier)) (sym all) (sym (made-next earlier i)) (sym (order-next earlier i)) (sym (replies-next earlier i)) c.holds;
      }

  -- behind a front of the items that are still to come
  pub record Reaches (earlier front later : List Item) (open_ : List Session) : Type 0 where
    pub now : List Session
    pub count : ℕ
    pub holds : Holds (earlier ++ front) now
    pub noted : AreNoted (world_behind (earlier ++ front)) (OfSessions now) count later
    pub kept : kept_behind (world_behind earlier) (OfSessions open_) front ≡ OfSessions now

  pub reaches : (front earlier later : List Item) (open_ : List Session) (n : ℕ) → Holds earlier open_ → IsRunFrom no_world (steps_of (earlier ++ (front ++ later))) →
      AreNoted (world_behind earlier) (OfSessions open_) n (front ++ later) → Reaches earlier front later open_
  reaches [] earlier later open_ n h run noted =
      let all = append-nil earlier in
      record {
        now = open_;
        count = n;
        holds = subst (λ xs. Holds xs open_) (sym all) h;
        noted = subst (λ xs. AreNoted (world_behind xs) (OfSessions open_) n later) (sym all) noted;
        kept = refl;
      }
  reaches (i ∷ front) earlier later open_ n h run noted =
      let through = append_assoc earlier (i ∷ []) (front ++ later) in
      let upto = front-items (earlier ++ i ∷ []) (front ++ later) (subst (λ xs. IsRunFrom no_world (steps_of xs)) (sym through) run) in
      let g = goes earlier open_ i h noted.2 noted.3 upto in
      let next : next_world (world_behind earlier) i.step ≡ world_behind (earlier ++ i ∷ []) = sym (world-next earlier i) in
      let rest = subst (λ (v : World). AreNoted v (OfSessions g.later) (suc n) (front ++ later)) next
      (subst (λ (c : Companion). AreNoted (next_world (world_behind earlier) i.step) c (suc n) (front ++ later)) g.kept noted.4) in
      let r = reaches front (earlier ++ i ∷ []) later g.later (suc n) g.holds (subst (λ xs. IsRunFrom no_world (steps_of xs)) (sym through) run) rest in
      let whole = append_assoc earlier (i ∷ []) front in
      record {
        now = r.now;
        count = r.count;
        holds = subst (λ xs. Holds xs r.now) whole r.holds;
        noted = subst (λ xs. AreNoted (world_behind xs) (OfSessions r.now) r.count later) whole r.noted;
        kept = ap (λ (c : Companion). kept_behind (next_world (world_behind earlier) i.step) c front) g.kept ∙ ap (λ (v : World). kept_behind v (OfSessions g.later) front) next ∙ r.kept;
      }

-- ---- all items of a run of sessions

pub holds-none : Holds [] []
holds-none = holds-first

-- what is held behind the items before one of them, and what that one comes to
pub record ItemStands (earlier : List Item) (i : Item) : Type 0 where
  pub open_ : List Session
  pub holds : Holds earlier open_
  pub taken : IfSome i.further (IsTaken (world_behind earlier) (OfSessions open_) i.step)
  pub before : IsRunFrom no_world (steps_of earlier)
  pub upto : IsRunFrom no_world (steps_of (earlier ++ i ∷ []))
  pub lines : session_lines (i ∷ []) ≡ lines_due earlier i

-- and behind all of them
pub record AllStand (items : List Item) : Type 0 where
  pub open_ : List Session
  pub holds : Holds items open_
  pub kept : kept_behind no_world (OfSessions []) items ≡ OfSessions open_

module _ (laws : Laws) (items : List Item) (run : IsRunFrom no_world (steps_of items)) (noted : AreNoted no_world (OfSessions []) 0 items) where
  pub item-stands : (earlier : List Item) (i : Item) → ItemAfter items earlier i → ItemStands earlier i
  item-stands earlier i there =
      let later = there.0 in
      let whole : IsRunFrom no_world (steps_of (earlier ++ i ∷ later)) = subst (λ xs. IsRunFrom no_world (steps_of xs)) there.1 run in
      let r = reaches laws earlier [] (i ∷ later) [] 0 holds-none whole (subst (AreNoted no_world (OfSessions []) 0) there.1 noted) in
      let upto = front-items (earlier ++ i ∷ []) later (subst (λ xs. IsRunFrom no_world (steps_of xs)) (sym (append_assoc earlier (i ∷ []) later)) whole) in
      record {
        open_ = r.now;
        holds = r.holds;
        taken = r.noted.2;
        before = front-items earlier (i ∷ later) whole;
        upto = upto;
        lines = (goes laws earlier r.now i r.holds r.noted.2 r.noted.3 upto).lines;
      }

  pub all-stand : AllStand items
  all-stand =
      let all = append-nil items in
      let r = reaches laws items [] [] [] 0 holds-none (subst (λ xs. IsRunFrom no_world (steps_of xs)) (sym all) run) (subst (AreNoted no_world (OfSessions []) 0) (sym all) noted) in
      record { open_ = r.now; holds = r.holds; kept = r.kept }
