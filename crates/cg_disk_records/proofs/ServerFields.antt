-- Members as fields, and the loop that reads servers.
use Rattle.std.proofs.Common.{◌≡◌, ℕ, suc, ◌<◌, ◌≤◌, List, [], ◌∷◌, ◌++◌, length, Ok, refl, arith}
use Rattle.std.proofs.lemmas.List.{length-map}
use Rattle.cg_base.specs.Sets.{IsSet, Ascends}
use Rattle.cg_base.specs.SetLaws.{length-Ascends}
use Rattle.cg_codec.specs.Fields.{byte, number64, list}
use Rattle.cg_codec.specs.Reading.{Unread, ◌>>=◌, done, take_list}
use Rattle.cg_codec.specs.Laws.{IsField, EachBehind}
use Rattle.cg_codec.specs.FieldLaws.{field_has, go_on-ok, given}
use Rattle.cg_codec.specs.PlainLaws.{count_field}
use Rattle.cg_codec.specs.ListLaws.{field_list}
use Rattle.cg_codec.specs.ShapeLaws.{field_two, field_three}
use Rattle.cg_members.specs.declared.server.Server.{Server}
use Rattle.cg_members.specs.Members.{Members}
use Rattle.cg_members.specs.Listed.{server_ids, Count, AreServers}
use Rattle.cg_base.specs.Lists.{Each}
use Rattle.cg_records.specs.Limits.{IsNumber}
use Rattle.cg_records.specs.Bytes.{spelled_set}
use Rattle.cg_records.specs.Reading.{take_number, take_id_above, take_weight, last_of, take_set}
use Rattle.cg_records.specs.RecordLaws.{Follows, IsWeight, id_field, weight_field, number_field, set_field}
use Rattle.cg_records.specs.PassedLaws.{id_above-ok, weight-ok}
use Rattle.cg_disk_records.specs.Checkpoint.{spelled_server}
use Rattle.cg_disk_records.specs.Limits.{AreMembers}
use Rattle.cg_disk_records.specs.Reading.{server_reading, servers_reading, members_reading}
use Rattle.cg_disk_records.specs.PartLaws.{server-last}

-- ---- a server

abbrev FollowsServer : ℕ → Server → Type 0
FollowsServer last s = Follows last s.id × IsNumber s.line × IsWeight s.weight

abbrev server_is : ℕ → ℕ → ℕ → Server
server_is id line weight = record { id = id; line = line; weight = weight }

server_field : (last : ℕ) → IsField (FollowsServer last) spelled_server (server_reading last)
unfolding spelled_server server_reading
server_field last =
    field_three server_is (λ s. s.id) (λ s. s.line) (λ s. s.weight) (Follows last) IsNumber IsWeight byte number64 byte (take_id_above last) take_number take_weight (FollowsServer last) spelled_server
    (id_field last) number_field weight_field
    (λ s has. (has.0, has.1, has.2, refl, refl))
    (λ id line weight i l w. ((i, l, w), refl, refl, refl))

-- ---- servers

abbrev FollowsServers : List Server → Server → Type 0
FollowsServers taken s = FollowsServer (last_of (server_ids taken)) s

abbrev HaveLines : List Server → Type 0
HaveLines servers = Each (λ s. IsNumber s.line) servers

servers-behind : (xs taken : List Server) → EachBehind FollowsServers taken xs → Ascends (suc (last_of (server_ids taken))) (server_ids xs) × Count xs × HaveLines xs
servers-behind [] taken behind = (tt, tt, tt)
servers-behind (s ∷ xs) taken behind =
    let rest = servers-behind xs (taken ++ s ∷ []) behind.1 in
    let up : Ascends (suc s.id) (server_ids xs) = rw (server-last taken s) at rest.0 in
    ((behind.0.0.0, behind.0.0.1, up), (behind.0.2.0, behind.0.2.1, rest.1), (behind.0.1, rest.2))

behind-servers : (xs taken : List Server) → Ascends (suc (last_of (server_ids taken))) (server_ids xs) → Count xs → HaveLines xs → EachBehind FollowsServers taken xs
behind-servers [] taken up count lines = tt
behind-servers (s ∷ xs) taken up count lines =
    let more : Ascends (suc (last_of (server_ids (taken ++ s ∷ [])))) (server_ids xs) = rw (server-last taken s) up.2 in
    (((up.0, up.1), lines.0, (count.0, count.1)), behind-servers xs (taken ++ s ∷ []) more count.2 lines.1)

abbrev AreLined : List Server → Type 0
AreLined servers = AreServers servers × HaveLines servers

servers_field : IsField AreLined (list spelled_server) servers_reading
unfolding servers_reading
servers_field =
    field_has (λ (xs : List Server). (length xs ≤ 32) × EachBehind FollowsServers [] xs) AreLined (list spelled_server) (take_list 32 (λ taken. server_reading (last_of (server_ids taken))))
    (λ xs has. let b = servers-behind xs [] has.1 in (record { ascend = b.0; count = b.1 }, b.2))
    (λ xs has. (
      omega (arith, length-Ascends (server_ids xs) 1 (omega arith) has.0.ascend, length-map xs (λ s. s.id)),
      behind-servers xs [] has.0.ascend has.0.count has.1,
    ))
    (field_list 32 FollowsServers spelled_server (λ taken. server_reading (last_of (server_ids taken))) (count_field 32 (omega arith)) (λ taken. server_field (last_of (server_ids taken))))

-- ---- members

abbrev pub spelled_members : Members → List ℕ
spelled_members m = list spelled_server m.servers ++ spelled_set m.left

abbrev members_are : List Server → List ℕ → Members
members_are servers left = record { servers = servers; left = left }

pub members_field : IsField AreMembers spelled_members members_reading
unfolding members_reading
members_field =
    field_two members_are (λ m. m.servers) (λ m. m.left) AreLined IsSet (list spelled_server) spelled_set servers_reading take_set AreMembers spelled_members
    servers_field set_field
    (λ m has. ((has.servers, has.lines), has.left, refl, refl))
    (λ servers left s l. (record { servers = s.0; lines = s.1; left = l }, refl, refl))

-- ---- the loop

-- what a server that was read has
pub record Serves (last : ℕ) (s : Server) : Type 0 where
  pub above : last < s.id
  pub weight : 1 ≤ s.weight

pub server-ok : (last : ℕ) (s : Server) (old new : Unread) → server_reading last old ≡ Ok (s, new) → Serves last s
unfolding server_reading
server-ok last s old new e =
    let first = go_on-ok (take_id_above last old) (λ id. take_number >>= λ line. take_weight >>= λ weight. done (server_is id line weight)) s new e in
    let second = go_on-ok (take_number first.1) (λ line. take_weight >>= λ weight. done (server_is first.0 line weight)) s new first.3 in
    let third = go_on-ok (take_weight second.1) (λ weight. done (server_is first.0 second.0 weight)) s new second.3 in
    let same = given (server_is first.0 second.0 third.0) s third.1 new third.3 in
    rw (← same.0) record { above = (id_above-ok last first.0 old first.1 first.2).0; weight = weight-ok third.0 second.1 third.1 third.2 }
