-- What the most updated member has discarded every member that remains has: its white count is no higher than the least green count.
use Rattle.std.proofs.Common.{◌≡◌, ℕ, ◌≤◌, Bool, true, false, not, ◌&&◌, List, [], ◌∷◌, map, filter, fold, min, Option, Some, None, IfSome, sym, ap, subst, ◌∙◌, ⊎_elim, arith}
use Rattle.std.specs.Option.{option_map_or}
use Rattle.std.proofs.lemmas.Bool.{and_parts, cond_both, not-true, or_cases}
use Rattle.cg_base.specs.Lists.{lesser, least_of, Each}
use Rattle.cg_base.specs.Sets.{has, common}
use Rattle.cg_base.specs.SetLaws.{has-without, has-common}
use Rattle.cg_action.specs.declared.action.Action.{Action}
use Rattle.cg_knowledge.specs.declared.summary.Summary.{Summary}
use Rattle.cg_knowledge.specs.Summaries.{senders, gone, remaining, most_updated}
use Rattle.cg_members.specs.Listed.{line_of}
use Rattle.cg_members.specs.Servers.{members_of, is_server, was_ever}
use Rattle.cg_plan.specs.Plan.{of_remaining, least_greens}
use Rattle.cg_client.specs.Replica.{Held}
use Rattle.cg_model.specs.Chronicle.{Told, Chronicle}
use Rattle.cg_model.specs.FactsExchange.{HasReached}
use Rattle.cg_model.specs.FactsReplica.{IsLined, IsMadeOf}
use Rattle.cg_agree_lemmas.specs.LinesTold.{line-told}

-- who remains isn't among those that the most updated member knows to have left
pub stays-in : (heard : List Summary) (best : Summary) (q : ℕ) → most_updated heard ≡ Some best → has (remaining heard) q ≡ true → has best.left q ≡ false
unfolding remaining gone
stays-in heard best q most stays =
    let parts = and_parts (has (senders heard) q) (not (has (gone heard) q)) (sym (has-without (senders heard) (gone heard) q) ∙ stays) in
    let is : has (gone heard) q ≡ (has (senders heard) q && has best.left q) =
    ap (λ o. has (option_map_or (λ s. common (senders heard) s.left) o []) q) most ∙ has-common (senders heard) best.left q in
    second (has (senders heard) q) (has best.left q) parts.0 (sym is ∙ not-true (has (gone heard) q) parts.1) where
      second : (a b : Bool) → a ≡ true → (a && b) ≡ false → b ≡ false
      second true b e f = f
      second false b e f = absurd (let clash : false ≡ true = e in cc)

-- a number that is below each of them is below the least
least-from : (w : ℕ) (ns : List ℕ) (o : Option ℕ) → IfSome o (λ n. w ≤ n) → Each (λ n. w ≤ n) ns → IfSome (fold lesser o ns) (λ n. w ≤ n)
least-from w [] o first each = first
least-from w (n ∷ ns) None first each = least-from w ns (Some n) each.0 each.1
least-from w (n ∷ ns) (Some m) first each = least-from w ns (Some (min n m)) (let a : w ≤ n = each.0 in let b : w ≤ m = first in omega arith) each.1

pub least-above : (w : ℕ) (ns : List ℕ) → Each (λ n. w ≤ n) ns → IfSome (least_of ns) (λ n. w ≤ n)
least-above w ns each = least-from w ns None tt each

-- a member whose summary was heard: what it told, and that it was a server as the most updated member's greens say
pub record IsWitnessed (c : Chronicle) (by : Told) (s : Summary) : Type 0 where
  pub of : Told
  pub is : of.summary ≡ s
  pub reached : HasReached c.start by of
  pub ever : was_ever (members_of c.start by.greens) s.id ≡ true

module _ (c : Chronicle) (heard : List Summary) (by : Told) (h : Held) (all : List Action) (lined : IsLined c h all) (made : IsMadeOf c.start h all) (greens : all ≡ by.greens)
    (most : most_updated heard ≡ Some by.summary) (left : by.summary.left ≡ (members_of c.start by.greens).left) where
  one-above : (s : Summary) → IsWitnessed c by s → has (remaining heard) s.id ≡ true → h.queue.white ≤ s.green_count
  one-above s seen stays =
      let members : h.members ≡ members_of c.start by.greens = made.members ∙ ap (members_of c.start) greens in
      let gone_not : has (members_of c.start by.greens).left s.id ≡ false = ap (λ xs. has xs s.id) (sym left) ∙ stays-in heard by.summary s.id most stays in
      let server : is_server (members_of c.start by.greens) s.id ≡ true = ⊎_elim (λ is. is)
      (λ was. absurd (let clash : true ≡ false = sym was ∙ gone_not in cc)) (or_cases (is_server (members_of c.start by.greens) s.id) (has (members_of c.start by.greens).left s.id) seen.ever) in
      let name : seen.of.summary.id ≡ s.id = ap (λ x. x.id) seen.is in
      let line = line-told c.start by seen.of seen.reached in
      let low : line_of (members_of c.start by.greens).servers s.id ≤ s.green_count =
      subst (λ i. line_of (members_of c.start by.greens).servers i ≤ s.green_count) name (subst (λ k. line_of (members_of c.start by.greens).servers seen.of.summary.id ≤ k) (ap (λ x. x.green_count) seen.is) line) in
      let white : h.queue.white ≤ line_of (members_of c.start by.greens).servers s.id =
      subst (λ m. h.queue.white ≤ line_of m.servers s.id) members (lined.white s.id (ap (λ m. is_server m s.id) members ∙ server)) in
      omega arith

  all-above : (list : List Summary) → Each (IsWitnessed c by) list → Each (λ n. h.queue.white ≤ n) (map (λ s. s.green_count) (filter (λ s. has (remaining heard) s.id) list))
  all-above [] seen = tt
  all-above (s ∷ list) seen =
      cond_both (has (remaining heard) s.id) (s ∷ filter (λ s. has (remaining heard) s.id) list) (filter (λ s. has (remaining heard) s.id) list)
      (λ xs. Each (λ n. h.queue.white ≤ n) (map (λ s. s.green_count) xs)) (λ y. (one-above s seen.0 y, all-above list seen.1)) (λ n. all-above list seen.1)

  pub white-least : Each (IsWitnessed c by) heard → IfSome (least_greens heard) (λ low. h.queue.white ≤ low)
  unfolding least_greens of_remaining
  white-least seen = least-above h.queue.white (map (λ s. s.green_count) (filter (λ s. has (remaining heard) s.id) heard)) (all-above heard seen)
