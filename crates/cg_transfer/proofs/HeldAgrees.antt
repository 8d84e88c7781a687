-- What a replica holds agrees, and so does what a snapshot of it makes of a joiner.
use Rattle.std.proofs.Common.{◌≡◌, ◌-◌, max, false, true, [], refl, subst, arith}
use Rattle.std.specs.Prelude.{drop, IsTrue}
use Rattle.std.specs.List.{list_all}
use Rattle.cg_client.specs.Replica.{Held}
use Rattle.cg_queue.specs.Queue.{green_count}
use Rattle.cg_disk_records.specs.Agreeing.{Agrees, is_present}
use Rattle.cg_disk_records.specs.Stored.{stored_of, whiten}
use Rattle.cg_disk_records.specs.Holds.{Holds}
use Rattle.cg_disk_records.specs.Always.{AlwaysCounts, AlwaysSettled}

module _ (h : Held) where
  -- the same without servers, of which no green is discarded
  abbrev alone : Held
  alone = record h { members = record { servers = []; left = [] } }

  none-white : whiten alone ≡ alone
  unfolding whiten
  none-white =
      let q = h.queue in
      let same : max q.white 0 ≡ q.white = omega arith in
      let none : max q.white 0 - q.white ≡ 0 = omega arith in
      λ i. record alone { queue = record q { white = same i; greens = drop (none i) q.greens } }

  holds-alone : Holds h → Holds alone
  holds-alone is = record {
    rising = is.rising;
    greens = is.greens;
    count = is.count;
    red_cut = is.red_cut;
    reds = is.reds;
    by_name = is.by_name;
    own = is.own;
    mine = is.mine;
    yellow = is.yellow;
    members = record { apart = λ p e. absurd (let clash : false ≡ true = e in cc); lines = tt };
  }

  -- a commit leaves members and the number of greens, so that the servers agree before one too
  present : AlwaysCounts → AlwaysSettled → Holds h → IsTrue (list_all (is_present (green_count h.queue) h.members.left) h.members.servers)
  unfolding whiten
  present counts settled is = subst (λ n. IsTrue (list_all (is_present n h.members.left) h.members.servers)) (counts.same_count h is) (settled h is).members

  pub held-agrees : AlwaysCounts → AlwaysSettled → Holds h → Agrees (stored_of h)
  held-agrees counts settled is =
      let lone : Agrees (stored_of alone) = subst (λ x. Agrees (stored_of x)) none-white (settled alone (holds-alone is)) in
      record {
        members = present counts settled is;
        count = lone.count;
        each = lone.each;
        red_cut = lone.red_cut;
        by_name = lone.by_name;
        yellow = lone.yellow;
        own = lone.own;
        buffered = refl;
        owed = refl;
      }
