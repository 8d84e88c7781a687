-- What a joiner holds agrees where what its representative held did.
use Rattle.std.proofs.Common.{◌≡◌, ℕ, ◌-◌, max, true, [], refl, arith}
use Rattle.std.specs.Prelude.{nat_eq}
use Rattle.std.specs.Cmp.Lexicographic.{pointwise}
use Rattle.std.proofs.lemmas.Bool.{and_parts, and_from}
use Rattle.cg_base.specs.Cuts.{index_in}
use Rattle.cg_base.specs.Lists.{above_up_to}
use Rattle.cg_base.specs.Replicas.{every_replica}
use Rattle.cg_queue.specs.Queue.{QueueView}
use Rattle.cg_client.specs.Replica.{Held}
use Rattle.cg_disk_records.specs.Stored.{stored_of}
use Rattle.cg_disk_records.specs.Agreeing.{Agrees, counts_up, count_to, indexes_of}
use Rattle.cg_client.specs.Joined.{joiner_content, joined_queue}
use Rattle.cg_base.specs.EachLaws.{list_all_kept_by}

-- nothing stands behind a number and up to it
none-above : (n : ℕ) → pointwise nat_eq [] (above_up_to n n) ≡ true
none-above n = let none : n - n ≡ 0 = omega arith in rw none refl

counts-joined : (q : QueueView) (p : ℕ) → counts_up q p ≡ true → counts_up (joined_queue q) p ≡ true
counts-joined q p up =
    let greens = count_to (index_in q.green_cut p) (indexes_of q.greens p) in
    let reds = pointwise nat_eq (indexes_of q.reds p) (above_up_to (index_in q.green_cut p) (index_in q.red_cut p)) in
    and_from greens (pointwise nat_eq [] (above_up_to (index_in q.green_cut p) (index_in q.green_cut p))) (and_parts greens reds up).0 (none-above (index_in q.green_cut p))

none-own : (n : ℕ) → pointwise nat_eq [] (above_up_to n (max n 0)) ≡ true
none-own n = let same : max n 0 ≡ n = omega arith in rw same (none-above n)

pub joined-agrees : (id : ℕ) (h : Held) → Agrees (stored_of h) → Agrees (joiner_content id h)
joined-agrees id h agrees = record {
  members = agrees.members;
  count = agrees.count;
  each = list_all_kept_by (counts_up h.queue) (counts_up (joined_queue h.queue)) (counts-joined h.queue) every_replica agrees.each;
  red_cut = refl;
  by_name = refl;
  yellow = refl;
  own = none-own (index_in h.queue.green_cut id);
  buffered = refl;
  owed = refl;
}
