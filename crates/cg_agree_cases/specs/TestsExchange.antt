-- Tests of the facts about summaries and exchanges.
use Rattle.std.specs.Prelude.{ℕ, ◌==◌, nat_lt, nat_le, max, Bool, true, not, ◌&&◌, is_none, List, [], Option, Some, None, filter, take, length, if◌then◌else◌}
use Rattle.std.specs.List.{list_all}
use Rattle.std.specs.Bool.{beq}
use Rattle.std.specs.Option.{option_map_or, option_eq}
use Rattle.cg_base.specs.Cuts.{index_in}
use Rattle.cg_base.specs.Calls.{same_ids}
use Rattle.cg_base.specs.Sets.{has, is_within}
use Rattle.cg_base.specs.Text.{is_nil}
use Rattle.cg_action.specs.declared.action.Action.{Action}
use Rattle.cg_members.specs.Servers.{members_of, was_ever, starting}
use Rattle.cg_queue.specs.Queue.{names_of}
use Rattle.cg_records.specs.contracts.primary.PrimaryPartialEq.TheImpl.{ghosts as primary}
use Rattle.cg_records.specs.contracts.vulnerable.VulnerablePartialEq.TheImpl.{ghosts as vulnerable}
use Rattle.cg_records.specs.contracts.yellow.YellowPartialEq.TheImpl.{ghosts as yellow}
use Rattle.cg_records.specs.declared.vulnerable.Vulnerable.{Vulnerable}
use Rattle.cg_knowledge.specs.declared.summary.Summary.{Summary}
use Rattle.cg_knowledge.specs.Summaries.{gone}
use Rattle.cg_knowledge.specs.Primary.{known_primary}
use Rattle.cg_knowledge.specs.Yellow.{common_yellow}
use Rattle.cg_knowledge.specs.Vulnerable.{decided}
use Rattle.cg_client.specs.Replica.{Held, State, RegPrim, TransPrim, ExchangeStates, ExchangeActions, NonPrim, Left, Replica, yellow_of, created}
use Rattle.cg_model.specs.World.{replica_of}
use Rattle.cg_model.specs.Chronicle.{Told, Attempt, Chronicle}
use Rattle.cg_model.specs.Looks.{greens_of, core_of, ordered_in, told_in, is_in, is_regular_in, attempt_of, attempt_at, installation}
use Rattle.cg_model.specs.Levels.{prim_at}
use Rattle.cg_model.specs.FactsTalk.{handed_talk}
use Rattle.cg_model.specs.FactsReplica.{join_from}
use Rattle.cg_model.specs.FactsExchange.{greens_behind, red_behind, best_told}
use Rattle.cg_model.specs.Smalls.{implies}
use Rattle.cg_agree_cases.specs.Same.{same_actions, front_actions, same_numbers}
use Rattle.cg_agree_cases.specs.Through.{if_some, is_some_with, for_replicas, for_confs, for_both}
use Rattle.cg_disk_records.specs.Holds.{run_on, cut_behind}

abbrev is_record : Attempt → Vulnerable → Bool
is_record a v = (v.from == a.from) && same_numbers v.set a.set && is_within v.bits a.entered

abbrev pub has_record : Chronicle → ℕ → ℕ → Option Vulnerable → Bool
has_record c p index None = true
has_record c p index (Some v) = has v.bits p && nat_le v.from index
    && is_some_with (attempt_of c v.attempt) (λ a. is_record a v)

abbrev is_summary : Chronicle → Told → Bool
is_summary c t =
    (t.summary.green_count == length t.greens) && same_ids t.summary.green_cut (cut_behind [] (names_of t.greens))
    && same_numbers t.summary.left (members_of c.start t.greens).left
    && for_replicas c (λ q. nat_le (index_in t.summary.green_cut q) (index_in t.summary.red_cut q))
    && run_on t.summary.green_cut t.summary.yellow.list
    && list_all (λ id. nat_le id.index (index_in t.summary.red_cut id.creator)) t.summary.yellow.list

abbrev knows_levels : Chronicle → Told → Bool
knows_levels c t =
    let s = t.summary in
    nat_le s.prim.index (length c.levels) && primary.eq s.prim (prim_at c s.prim.index) && nat_lt s.prim.conf s.conf
    && front_actions (installation (attempt_at c s.prim.index)) t.greens && has_record c s.id s.prim.index s.vulnerable
    && nat_lt (option_map_or (λ v. v.attempt) s.vulnerable 0) s.conf

abbrev is_outdone : Chronicle → Told → Held → Bool
is_outdone c t h =
    front_actions t.greens (greens_of c t.summary.id) && nat_le t.summary.prim.index h.prim.index
    && nat_le (index_in t.summary.red_cut t.summary.id) (created h)

abbrev has_made_nothing : Told → Held → State → Bool
has_made_nothing t h RegPrim = true
has_made_nothing t h TransPrim = true
has_made_nothing t h (NonPrim regular) = true
has_made_nothing t h _ = created h == index_in t.summary.red_cut t.summary.id

abbrev knows_as_much : Chronicle → Told → Replica → Bool
knows_as_much c t r =
    for_replicas c (λ q. nat_le (index_in t.summary.red_cut q) (index_in r.held.queue.red_cut q))
    && has_made_nothing t r.held r.state

abbrev pub summary_of_sender : Chronicle → Bool
summary_of_sender c =
    for_both c (λ conf p. if_some (told_in c conf p) (λ t. is_summary c t && knows_levels c t
    && if_some (core_of c p) (is_outdone c t)
    && implies (is_in c conf p) (if_some (replica_of c.world p) (knows_as_much c t))))

-- it has told something in no later configuration
abbrev tells_nothing_later : Chronicle → ℕ → ℕ → Bool
tells_nothing_later c conf p = for_confs c (λ later. implies (nat_lt conf later) (is_none (told_in c later p)))

abbrev are_reached : ℕ → ℕ → List Action → Bool
are_reached p count greens = list_all (λ a. implies (a.id.creator == p) (nat_le a.green_line count)) greens

abbrev pub summary_lines : Chronicle → Bool
summary_lines c =
    for_both c (λ conf p. if_some (told_in c conf p) (λ by. for_replicas c (λ q. if_some (told_in c conf q) (λ of.
    are_reached q of.summary.green_count by.greens
    && implies (not (was_ever (starting c.start) q)) (nat_le (join_from 0 by.greens q) of.summary.green_count)))))

abbrev pub tellers_still : Chronicle → Bool
tellers_still c =
    for_both c (λ conf p. if_some (told_in c conf p)
    (λ t. implies (is_nil (ordered_in c conf) && tells_nothing_later c conf p)
    (same_actions (greens_of c p) t.greens)))

abbrev holds_still : Told → Held → Bool
holds_still t h =
    primary.eq h.prim t.summary.prim && (h.attempt_index == t.summary.attempt_index)
    && option_eq vulnerable.eq h.vulnerable t.summary.vulnerable
    && beq h.yellow_valid t.summary.yellow.valid

abbrev is_unmoved : Told → Held → List Action → Bool
is_unmoved t h greens =
    holds_still t h && same_ids h.queue.yellow t.summary.yellow.list && same_actions greens t.greens
    && same_ids h.queue.red_cut t.summary.red_cut

-- how far a member knows a creator's actions behind so many items
abbrev known_behind : List Summary → ℕ → Told → Held → ℕ → ℕ
known_behind heard accepted mine h q =
    max (index_in mine.summary.red_cut q) (max (index_in h.queue.green_cut q) (red_behind heard accepted q))

abbrev is_going_on : Chronicle → List Summary → ℕ → Told → Held → List Action → Told → Bool
is_going_on c heard accepted mine h greens best =
    holds_still mine h && same_actions
    greens (take (greens_behind heard accepted best.summary mine.summary) best.greens)
    && for_replicas c (λ q. index_in h.queue.red_cut q == known_behind heard accepted mine h q)
    && same_ids h.queue.yellow (filter (λ id. nat_lt (index_in h.queue.green_cut id.creator) id.index)
    mine.summary.yellow.list)

abbrev has_taken_over : List Summary → Told → Held → List Action → Told → Bool
has_taken_over heard mine h greens best =
    same_actions greens best.greens && primary.eq h.prim (known_primary heard)
    && yellow.eq (yellow_of h) (common_yellow heard)
    && option_eq vulnerable.eq h.vulnerable (decided heard mine.summary.vulnerable)

abbrev is_in_exchange : Chronicle → ℕ → Told → Held → List Action → State → Bool
is_in_exchange c conf t h greens (ExchangeStates at set heard) = is_unmoved t h greens
is_in_exchange c conf t h greens Left = is_unmoved t h greens
is_in_exchange c conf t h greens (ExchangeActions at heard accepted) =
    if has (gone heard) h.id then is_unmoved t h greens
    else is_some_with (best_told c conf heard) (is_going_on c heard accepted t h greens)
is_in_exchange c conf t h greens (NonPrim regular) =
    (let heard = (handed_talk c conf h.id).heard in
    is_some_with (best_told c conf heard) (has_taken_over heard t h greens))
is_in_exchange c conf t h greens _ = true

abbrev pub exchange_progress : Chronicle → Bool
exchange_progress c =
    for_both c (λ conf p. implies (is_regular_in c conf p) (if_some (replica_of c.world p) (λ r.
    is_some_with (told_in c conf p) (λ t. is_in_exchange c conf t r.held (greens_of c p) r.state))))
