-- The lines that greens make of servers are below the greens of each, where the book, the order and the members are as they are to be.
use Rattle.std.proofs.Common.{◌≡◌, ℕ, ◌+◌, ◌≤◌, ◌<◌, Bool, true, false, ◌||◌, List, [], ◌∷◌, fold, map, min, length, Option, Some, None, IfSome, refl, sym, ap, ◌∙◌, subst, arith, inl, inr, eqb-true, nat_lt}
use Rattle.std.specs.Prelude.{◌==◌, nat_le}
use Rattle.std.specs.Option.{unwrap_or}
use Rattle.std.proofs.lemmas.Bool.{cases_Bool, cases_lt, cond-true, cond-false, and_parts, leb-true, ltb-true, false_from_ne_true}
use Rattle.cg_base.specs.declared.action_id.ActionId.{ActionId}
use Rattle.cg_base.specs.Cuts.{index_in}
use Rattle.cg_base.specs.Ids.{same_id}
use Rattle.cg_base.specs.Lists.{least_of, lesser, Each}
use Rattle.cg_action.specs.declared.action.Action.{Action}
use Rattle.cg_members.specs.declared.server.Server.{Server}
use Rattle.cg_members.specs.Members.{Members}
use Rattle.cg_members.specs.Listed.{line_of}
use Rattle.cg_members.specs.Servers.{is_among, is_server, was_ever, white_line, starting, members_of}
use Rattle.cg_queue.specs.Queue.{names_of}
use Rattle.cg_model.specs.World.{has_begun}
use Rattle.cg_model.specs.Chronicle.{Chronicle}
use Rattle.cg_model.specs.Fronts.{Front, When}
use Rattle.cg_model.specs.Looks.{greens_of, stood_of, top_of}
use Rattle.cg_model.specs.Levels.{line_at}
use Rattle.cg_client.specs.Replica.{Held}
use Rattle.cg_model.specs.FactsExchange.{AreReached}
use Rattle.cg_model.specs.FactsReplica.{AreBelow, join_from, IsLined}
use Rattle.cg_agree_lemmas.specs.FrontFacts.{Front-of_both}
use Rattle.cg_disk_records.specs.Holds.{run_on}
use Rattle.cg_agree_lemmas.specs.LinesTold.{JoinsBelow, greens-below, first-lines}
use Rattle.cg_agree_lemmas.specs.LinesGreens.{join-within, join-front, ever-joined, line-first}
use Rattle.cg_agree_lemmas.specs.BookGrows.{named_in, IsNamed, cut_of}
use Rattle.cg_agree_lemmas.specs.BookCounts.{found-name}
use Rattle.cg_disk_records.specs.RunMarkLaws.{run-names}

-- ---- what holds of the book holds of each of its actions

found-fine : (Fine : Action → Type 0) (book : List Action) (id : ActionId) (a : Action) → Each Fine book → named_in book id ≡ Some a → Fine a
found-fine Fine [] id a each e = absurd (let clash : None ≡ Some a = e in cc)
found-fine Fine (x ∷ book) id a each e = elim (cases_Bool (same_id x.id id)) [
  | inl here ↦ subst (λ (o : Option Action). IfSome o Fine) (sym (cond-true (same_id x.id id) (Some x) (named_in book id) here) ∙ e) each.0
  | inr other ↦ found-fine Fine book id a each.1 (sym (cond-false (same_id x.id id) (Some x) (named_in book id) other) ∙ e)
]

pub named-fine : (Fine : Action → Type 0) (book list : List Action) → Each Fine book → Each (IsNamed book) list → Each Fine list
named-fine Fine book [] each named = tt
named-fine Fine book (a ∷ list) each named = (found-fine Fine book a.id a each named.0, named-fine Fine book list each named.1)

pub below-each : (c : Chronicle) (list : List Action) → AreBelow c list → Each (λ a. a.green_line ≤ length (greens_of c a.id.creator)) list
below-each c [] are = tt
below-each c (a ∷ list) are = (are.0, below-each c list are.1)

pub each-below : (c : Chronicle) (list : List Action) → Each (λ a. a.green_line ≤ length (greens_of c a.id.creator)) list → AreBelow c list
each-below c [] each = tt
each-below c (a ∷ list) each = (each.0, each-below c list each.1)

-- ---- the lines that a list of greens makes

module _ (d : Chronicle) (numbered : run_on [] (names_of d.book) ≡ true) (actions : AreBelow d d.book) (unbegun : (p : ℕ) → has_begun d.world p ≡ false → index_in (cut_of d.book) p ≡ 0)
    (first : (p : ℕ) → was_ever (starting d.start) p ≡ true → has_begun d.world p ≡ true)
    (ever : (p : ℕ) → has_begun d.world p ≡ true → was_ever (members_of d.start (stood_of d p)) p ≡ true)
    (on_line : (p : ℕ) → Front (greens_of d p) (line_at d (top_of d))) (behind : (p : ℕ) → Front (stood_of d p) (greens_of d p)) where
  -- who hasn't begun has made none of them
  others-made : (list : List Action) (q : ℕ) → has_begun d.world q ≡ false → Each (IsNamed d.book) list → Each (λ a. a.id.creator ≡ q → ⊥) list
  others-made [] q none named = tt
  others-made (a ∷ list) q none named = (
    (λ same.
        let there = sym (run-names [] (names_of d.book) a.id tt numbered) ∙ found-name d.book a.id a named.0 in
        let parts = and_parts (nat_lt 0 a.id.index) (nat_le a.id.index (index_in (cut_of d.book) a.id.creator)) there in
        let some = ltb-true 0 a.id.index parts.0 in
        let few = leb-true a.id.index (index_in (cut_of d.book) a.id.creator) parts.1 in
        let zero_there : index_in (cut_of d.book) a.id.creator ≡ 0 = ap (index_in (cut_of d.book)) same ∙ unbegun q none in
        omega arith),
    others-made list q none named.1,
  )

  pub reached : (list : List Action) (q : ℕ) → Each (λ a. a.green_line ≤ length (greens_of d a.id.creator)) list → AreReached q (length (greens_of d q)) list
  reached [] q each = tt
  reached (a ∷ list) q each = (at (a.id.creator == q) refl, reached list q each.1) where
    at : (b : Bool) → (a.id.creator == q) ≡ b → When b (a.green_line ≤ length (greens_of d q))
    at true e = subst (λ n. a.green_line ≤ length (greens_of d n)) (eqb-true a.id.creator q e) each.0
    at false e = tt

  -- its first join is no higher than its greens
  pub joined : (list : List Action) (q : ℕ) → has_begun d.world q ≡ true → Front list (line_at d (top_of d)) → JoinsBelow (starting d.start) 0 list q (length (greens_of d q))
  joined list q begun front = elim (cases_Bool (was_ever (starting d.start) q)) [
    | inl was ↦ inl was
    | inr not_first ↦ inr (elim (ever-joined (stood_of d q) (starting d.start) 0 q (ever q begun)) [
      | inl was ↦ absurd (let clash : true ≡ false = sym was ∙ not_first in cc)
      | inr some ↦
          let mine : join_from 0 (greens_of d q) q ≡ join_from 0 (stood_of d q) q = join-front (stood_of d q) (greens_of d q) 0 q (behind q) some in
          let low : join_from 0 (greens_of d q) q ≤ 0 + length (greens_of d q) = join-within (greens_of d q) 0 q in
          elim (cases_lt (length list) (length (greens_of d q))) [
            | inl shorter ↦ (let within : join_from 0 list q ≤ 0 + length list = join-within list 0 q in omega arith)
            | inr longer ↦
                let over = Front-of_both (greens_of d q) list (line_at d (top_of d)) (on_line q) front longer in
                let same : join_from 0 list q ≡ join_from 0 (greens_of d q) q = join-front (greens_of d q) list 0 q over (subst (λ n. 0 < n) (sym mine) some) in
                omega arith
          ]
    ])
  ]

  -- Lines are so where what is held is what these greens make of the servers.
  pub lined : (h : Held) (list : List Action) → h.members ≡ members_of d.start list → ((q : ℕ) → is_server h.members q ≡ true → h.queue.white ≤ line_of h.members.servers q) →
      Each (IsNamed d.book) list → Front list (line_at d (top_of d)) → IsLined d h list
  lined h list members white named front = record {
    begun = λ q begun. subst (λ (m : Members). line_of m.servers q ≤ length (greens_of d q)) (sym members)
        (greens-below list (starting d.start) 0 q (length (greens_of d q)) (joined list q begun front)
        (reached list q (named-fine (λ a. a.green_line ≤ length (greens_of d a.id.creator)) d.book list (below-each d d.book actions) named))
        (let none = first-lines d.start q in omega arith));
    others = λ q none server. ap (λ (m : Members). line_of m.servers q) members
        ∙ line-first list (starting d.start) 0 q (others-made list q none named) (not_ever q none) (sym (ap (λ (m : Members). is_server m q) members) ∙ server);
    white = white;
  } where
    not_ever : (q : ℕ) → has_begun d.world q ≡ false → was_ever (starting d.start) q ≡ false
    not_ever q none = false_from_ne_true (was_ever (starting d.start) q) (λ was. (let clash : true ≡ false = sym (first q was) ∙ none in cc))

-- ---- a commit discards no further than the least line

least-from : (ns : List ℕ) (m n : ℕ) → m ≤ n → unwrap_or (fold lesser (Some m) ns) 0 ≤ n
least-from [] m n le = le
least-from (k ∷ ns) m n le = least-from ns (min k m) n (omega arith)

least-below : (servers : List Server) (m q : ℕ) → is_among servers q ≡ true → unwrap_or (fold lesser (Some m) (map (λ s. s.line) servers)) 0 ≤ line_of servers q
least-below [] m q there = absurd (let clash : false ≡ true = there in cc)
least-below (s ∷ servers) m q there = elim (cases_Bool (s.id == q)) [
  | inl here ↦ subst (λ n. unwrap_or (fold lesser (Some (min s.line m)) (map (λ s. s.line) servers)) 0 ≤ n) (sym (cond-true (s.id == q) s.line (line_of servers q) here))
      (least-from (map (λ s. s.line) servers) (min s.line m) s.line (omega arith))
  | inr other ↦ subst (λ n. unwrap_or (fold lesser (Some (min s.line m)) (map (λ s. s.line) servers)) 0 ≤ n) (sym (cond-false (s.id == q) s.line (line_of servers q) other))
      (least-below servers (min s.line m) q (sym (ap (λ b. b || is_among servers q) other) ∙ there))
]

white-below : (servers : List Server) (q : ℕ) → is_among servers q ≡ true → unwrap_or (least_of (map (λ s. s.line) servers)) 0 ≤ line_of servers q
white-below [] q there = absurd (let clash : false ≡ true = there in cc)
white-below (s ∷ servers) q there = elim (cases_Bool (s.id == q)) [
  | inl here ↦ subst (λ n. unwrap_or (fold lesser (Some s.line) (map (λ s. s.line) servers)) 0 ≤ n) (sym (cond-true (s.id == q) s.line (line_of servers q) here))
      (least-from (map (λ s. s.line) servers) s.line s.line (omega arith))
  | inr other ↦ subst (λ n. unwrap_or (fold lesser (Some s.line) (map (λ s. s.line) servers)) 0 ≤ n) (sym (cond-false (s.id == q) s.line (line_of servers q) other))
      (least-below servers s.line q (sym (ap (λ b. b || is_among servers q) other) ∙ there))
]

pub white-line-below : (m : Members) (q : ℕ) → is_server m q ≡ true → unwrap_or (white_line m) 0 ≤ line_of m.servers q
white-line-below m q server = white-below m.servers q server
