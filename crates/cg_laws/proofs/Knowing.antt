-- What the members know together, where two neighbours among their summaries change places.
use Rattle.std.proofs.Common.{◌≡◌, ℕ, ◌+◌, true, false, not, ◌&&◌, ◌||◌, nat_le, ◌==◌, List, [], filter, is_none, Option, Some, None, cond, refl, sym, ap, subst, ◌∙◌}
use Rattle.std.specs.Option.{option_map_or}
use Rattle.std.specs.List.{list_all}
use Rattle.std.proofs.lemmas.List.Folds.{list_all-map}
use Rattle.cg_base.specs.declared.action_id.ActionId.{ActionId}
use Rattle.cg_base.specs.Sets.{has, common, without, same_set}
use Rattle.cg_base.specs.Ids.{has_name}
use Rattle.cg_base.specs.Cuts.{index_in}
use Rattle.cg_records.specs.declared.vulnerable.Vulnerable.{Vulnerable}
use Rattle.cg_knowledge.specs.declared.summary.Summary.{Summary}
use Rattle.cg_knowledge.specs.Summaries.{senders, leader, most_updated, lower, lowest, gone, remaining}
use Rattle.cg_knowledge.specs.Primary.{newest_index, knows_prim, newest, no_prim, known_primary, known_attempt}
use Rattle.cg_knowledge.specs.Yellow.{yellow_group, is_green_at_most, is_in_each, yellow_of, common_yellow}
use Rattle.cg_knowledge.specs.Vulnerable.{is_vulnerable_for, with_bits, all_bits, is_long_past, is_overtaken, is_ended_by_one, is_ended_by_all, is_cleared, decided}
use Rattle.cg_knowledge.specs.Verdict.{records_of, all_cleared, decides}
use Rattle.cg_laws.specs.Reordered.{SayTheSame}
use Rattle.cg_laws.proofs.Near.{Near, near-filter, near-fold, near-all, near-any, near-greatest}
use Rattle.cg_laws.proofs.Best.{better-commutes}
use Rattle.cg_laws.proofs.Joined.{with_member-swapped, with_bits-commutes}

near-lowest : (one other : List Summary) → Near one other → lowest one ≡ lowest other
unfolding lowest
near-lowest one other near = near-fold lower (better-commutes (λ s. 0)) None one other near

module _ (one other : List Summary) (near : Near one other) where
  -- ---- who they are

  same-senders : senders one ≡ senders other
  unfolding senders
  same-senders = near-fold _ (λ s t apart set. with_member-swapped set s.id t.id) [] one other near

  pub same-most : most_updated one ≡ most_updated other
  unfolding most_updated
  same-most = near-fold leader (better-commutes (λ s. s.green_count)) None one other near

  same-gone : gone one ≡ gone other
  unfolding gone
  same-gone i = option_map_or (λ s. common (same-senders i) s.left) (same-most i) []

  pub same-remaining : remaining one ≡ remaining other
  unfolding remaining
  same-remaining i = without (same-senders i) (same-gone i)

  -- ---- the last primary component

  same-index : newest_index one ≡ newest_index other
  unfolding newest_index
  same-index = near-greatest (λ s. s.prim.index) one other near

  near-newest : Near (newest one) (newest other)
  unfolding newest
  near-newest =
      subst (λ k. Near (filter (knows_prim (newest_index one)) one) (filter (knows_prim k) other)) same-index (near-filter (knows_prim (newest_index one)) one other near)

  same-primary : known_primary one ≡ known_primary other
  unfolding known_primary
  same-primary i = option_map_or (λ s. s.prim) (near-lowest (newest one) (newest other) near-newest i) no_prim

  same-attempt : known_attempt one ≡ known_attempt other
  unfolding known_attempt
  same-attempt = near-greatest (λ s. s.attempt_index) (newest one) (newest other) near-newest

  -- ---- yellow actions

  near-group : Near (yellow_group one) (yellow_group other)
  unfolding yellow_group
  near-group = near-filter (λ s. s.yellow.valid) (newest one) (newest other) near-newest

  same-in_each : (id : ActionId) → is_in_each (yellow_group one) id ≡ is_in_each (yellow_group other) id
  unfolding is_in_each
  same-in_each id = near-all (λ s. has_name s.yellow.list id) (yellow_group one) (yellow_group other) near-group

  same-green_at_most : (id : ActionId) → is_green_at_most one id ≡ is_green_at_most other id
  unfolding is_green_at_most
  same-green_at_most id i = option_map_or (λ s. nat_le id.index (index_in s.green_cut id.creator)) (same-most i) false

  same-yellow_of : (low : Option Summary) → yellow_of one low ≡ yellow_of other low
  same-yellow_of None = refl
  same-yellow_of (Some s) = λ i. record { valid = true; list = filter (λ id. same-in_each id i && not (same-green_at_most id i)) s.yellow.list }

  same-yellow : common_yellow one ≡ common_yellow other
  unfolding common_yellow
  same-yellow = same-yellow_of (lowest (yellow_group one)) ∙ ap (yellow_of other) (near-lowest (yellow_group one) (yellow_group other) near-group)

  -- ---- records of vulnerable members

  same-bits : (attempt : ℕ) → all_bits one attempt ≡ all_bits other attempt
  unfolding all_bits
  same-bits attempt = near-fold (with_bits attempt) (with_bits-commutes attempt) [] one other near

  same-long_past : (v : Vulnerable) → is_long_past one v ≡ is_long_past other v
  unfolding is_long_past
  same-long_past v i = nat_le (v.from + 2) (same-index i)

  same-overtaken : (v : Vulnerable) → is_overtaken one v ≡ is_overtaken other v
  unfolding is_overtaken
  same-overtaken v i = (same-index i == v.from + 1) && not ((same-primary i).conf == v.attempt)

  same-ended_by_one : (v : Vulnerable) → is_ended_by_one one v ≡ is_ended_by_one other v
  unfolding is_ended_by_one
  same-ended_by_one v = near-any (λ s. has v.set s.id && not (is_vulnerable_for v.attempt s)) one other near

  same-ended_by_all : (v : Vulnerable) → is_ended_by_all one v ≡ is_ended_by_all other v
  unfolding is_ended_by_all
  same-ended_by_all v i = same_set (same-bits v.attempt i) v.set

  same-cleared : (v : Vulnerable) → is_cleared one v ≡ is_cleared other v
  unfolding is_cleared
  same-cleared v i = same-long_past v i || (same-overtaken v i || (same-ended_by_one v i || same-ended_by_all v i))

  same-decided : (v : Option Vulnerable) → decided one v ≡ decided other v
  same-decided None = refl
  same-decided (Some v) = λ i. cond (same-cleared v i) None (Some (record v { bits = same-bits v.attempt i }))

  -- ---- whether they form the next primary component

  same-all_cleared : all_cleared one ≡ all_cleared other
  unfolding all_cleared records_of
  same-all_cleared =
      list_all-map is_none (λ s. decided one s.vulnerable) one
      ∙ near-all (λ s. is_none (decided one s.vulnerable)) one other near
      ∙ (λ i. list_all (λ s. is_none (same-decided s.vulnerable i)) other)
      ∙ sym (list_all-map is_none (λ s. decided other s.vulnerable) other)

  same-decides : decides one ≡ decides other
  unfolding decides
  same-decides = rw (same-primary, same-remaining, same-all_cleared) refl

  pub near-say : SayTheSame one other
  near-say = record {
    most = same-most;
    prim = same-primary;
    attempt_index = same-attempt;
    yellow = same-yellow;
    vulnerable = same-decided;
    left = same-gone;
    quorum = same-decides;
  }
