-- Tests of the facts about what was printed, and of what a small step never takes back.
use Rattle.std.specs.Prelude.{ℕ, suc, ◌==◌, nat_le, Bool, ◌&&◌, take, length}
use Rattle.std.specs.List.{list_all}
use Rattle.cg_base.specs.Cuts.{index_in}
use Rattle.cg_base.specs.Lists.{count_up}
use Rattle.cg_base.specs.Sets.{is_within}
use Rattle.cg_queue.specs.Queue.{names_of}
use Rattle.cg_client.specs.Replica.{created}
use Rattle.cg_model.specs.World.{replica_of}
use Rattle.cg_model.specs.Chronicle.{Attempt, Chronicle}
use Rattle.cg_model.specs.Looks.{greens_of, core_of, told_in, members_in, attempt_of, top_of, copied_for}
use Rattle.cg_model.specs.Talk.{is_full}
use Rattle.cg_model.specs.Levels.{line_at, reached_at, reach_at, is_frozen}
use Rattle.cg_model.specs.FactsTalk.{whole_talk}
use Rattle.cg_model.specs.Smalls.{implies}
use Rattle.cg_agree_cases.specs.Same.{same_actions, same_numbers, front_actions, front_ids, same_summary, same_summaries}
use Rattle.cg_agree_cases.specs.Through.{if_some, is_some_with, for_replicas, for_confs}

-- ---- at the end of a step

abbrev pub order_book : Chronicle → Bool
order_book c =
    front_ids c.world.order (names_of (line_at c (top_of c))) && nat_le (length c.world.order) (reached_at c (top_of c))
    && for_replicas c (λ p. if_some (replica_of c.world p) (λ r. front_ids (names_of (greens_of c p)) c.world.order))
    && list_all (λ t. nat_le t.summary.green_count (length c.world.order)) c.told
    && list_all (λ s. nat_le (length (copied_for c s.joiner)) (length c.world.order)
    && front_actions (copied_for c s.joiner) (greens_of c s.giver)) c.world.snapshots
    && list_all (λ id. nat_le id.index (index_in c.world.made id.creator)) c.world.order

abbrev pub made_book : Chronicle → Bool
made_book c =
    for_replicas c (λ p. if_some (core_of c p) (λ h. nat_le (index_in c.world.made p) (created h))
    && if_some (replica_of c.world p) (λ r. index_in c.world.made p == created r.held))

-- ---- of two chronicles

abbrev has_grown : Attempt → Attempt → Bool
has_grown a b =
    is_within a.entered b.entered && is_within a.installed b.installed && (b.from == a.from) && same_numbers b.set a.set
    && same_actions b.greens a.greens && same_actions b.yellow a.yellow && same_actions b.reds a.reds

-- a frozen level's reach has become no longer, and what was reached of it no less
abbrev is_shrinking : Chronicle → Chronicle → ℕ → Bool
is_shrinking c d level =
    nat_le (reached_at c level) (reached_at d level)
    && implies (is_frozen d level) (front_actions (reach_at d level) (reach_at c level))

abbrev pub lists_grow : Chronicle → Chronicle → Bool
lists_grow c d =
    for_replicas c (λ p. front_actions (greens_of c p) (greens_of d p)
    && if_some (core_of c p) (λ h. is_some_with (core_of d p) (λ k. nat_le h.prim.index k.prim.index
    && nat_le (created h) (created k))))
    && list_all (λ t. is_some_with (told_in d t.summary.conf t.summary.id) (λ u.
    same_summary t.summary u.summary && same_actions t.greens u.greens)) c.told
    && for_confs c (λ conf. implies (is_full (members_in c conf) (whole_talk c conf))
    (same_summaries (whole_talk d conf).heard (whole_talk c conf).heard))
    && list_all (λ a. is_some_with (attempt_of d a.conf) (has_grown a)) c.attempts
    && same_numbers c.levels (take (length c.levels) d.levels)
    && list_all (is_shrinking c d) (count_up 0 (suc (top_of c)))
