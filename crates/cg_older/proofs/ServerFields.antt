-- Members as fields, and the loop that reads servers.
use Rattle.std.proofs.Common.{◌≡◌, ℕ, suc, ◌<◌, ◌≤◌, false, List, [], ◌∷◌, ◌++◌, length, Ok, ltb, refl, sym, arith}
use Rattle.std.proofs.lemmas.Bool.{or_parts}
use Rattle.std.proofs.lemmas.List.{length-map}
use Rattle.std.specs.List.{list_any}
use Rattle.cg_base.specs.Sets.{IsSet, Ascends}
use Rattle.cg_base.specs.SetLaws.{length-Ascends}
use Rattle.cg_base.specs.Lists.{Each}
use Rattle.cg_codec.specs.Fields.{byte, number64, list}
use Rattle.cg_codec.specs.Reading.{Unread, ◌>>=◌, done, take_list}
use Rattle.cg_codec.specs.Laws.{IsField, EachBehind}
use Rattle.cg_codec.specs.FieldLaws.{field_has, go_on-ok, given}
use Rattle.cg_codec.specs.PlainLaws.{count_field}
use Rattle.cg_codec.specs.ListLaws.{field_list}
use Rattle.cg_codec.specs.ShapeLaws.{field_two}
use Rattle.cg_members.specs.declared.server.Server.{Server}
use Rattle.cg_members.specs.Members.{Members}
use Rattle.cg_members.specs.Listed.{server_ids, Count}
use Rattle.cg_records.specs.Limits.{IsNumber}
use Rattle.cg_records.specs.Bytes.{spelled_set}
use Rattle.cg_records.specs.Reading.{take_number, take_id_above, last_of, take_set}
use Rattle.cg_records.specs.PassedLaws.{id_above-ok}
use Rattle.cg_records.specs.RecordLaws.{Follows, id_field, number_field, set_field}
use Rattle.cg_older.specs.Bytes.{spelled_old_server}
use Rattle.cg_disk_records.specs.Limits.{AreMembers}
use Rattle.cg_older.specs.Reading.{old_server_reading, old_servers_reading, old_members_reading}
use Rattle.cg_older.specs.Weights.{is_heavy_server}
use Rattle.cg_older.proofs.Light.{one-weight}
use Rattle.cg_disk_records.specs.PartLaws.{server-last}

-- ---- a server

abbrev FollowsServer : ℕ → Server → Type 0
FollowsServer last s = Follows last s.id × IsNumber s.line × (s.weight ≡ 1)

abbrev server_is : ℕ → ℕ → Server
server_is id line = record { id = id; line = line; weight = 1 }

server_field : (last : ℕ) → IsField (FollowsServer last) spelled_old_server (old_server_reading last)
unfolding spelled_old_server old_server_reading
server_field last =
    field_two server_is (λ s. s.id) (λ s. s.line) (Follows last) IsNumber byte number64 (take_id_above last) take_number (FollowsServer last) spelled_old_server
    (id_field last) number_field
    (λ s has. (has.0, has.1, (λ i. record { id = s.id; line = s.line; weight = sym has.2 i }), refl))
    (λ id line i l. ((i, l, refl), refl, refl))

-- ---- servers

abbrev FollowsServers : List Server → Server → Type 0
FollowsServers taken s = FollowsServer (last_of (server_ids taken)) s

-- servers whose weights are 1, from an identifier on
pub record AreOnce (low : ℕ) (servers : List Server) : Type 0 where
  pub ascend : Ascends low (server_ids servers)
  pub count : Count servers
  pub lines : Each (λ s. IsNumber s.line) servers
  pub light : list_any is_heavy_server servers ≡ false

servers-behind : (xs taken : List Server) → EachBehind FollowsServers taken xs → AreOnce (suc (last_of (server_ids taken))) xs
servers-behind [] taken behind = record { ascend = tt; count = tt; lines = tt; light = refl }
servers-behind (s ∷ xs) taken behind =
    let rest = servers-behind xs (taken ++ s ∷ []) behind.1 in
    let up : Ascends (suc s.id) (server_ids xs) = rw (server-last taken s) at rest.ascend in
    let weight : s.weight ≡ 1 = behind.0.2 in
    record {
      ascend = (behind.0.0.0, behind.0.0.1, up);
      count = (omega (arith, weight), omega (arith, weight), rest.count);
      lines = (behind.0.1, rest.lines);
      light = rw weight rest.light;
    }

behind-servers : (xs taken : List Server) → AreOnce (suc (last_of (server_ids taken))) xs → EachBehind FollowsServers taken xs
behind-servers [] taken are = tt
behind-servers (s ∷ xs) taken are =
    let more : Ascends (suc (last_of (server_ids (taken ++ s ∷ [])))) (server_ids xs) = rw (server-last taken s) are.ascend.2 in
    let light = or_parts (ltb 1 s.weight) (list_any is_heavy_server xs) are.light in
    let weight : s.weight ≡ 1 = one-weight s.weight are.count.0 light.0 in
    (((are.ascend.0, are.ascend.1), are.lines.0, weight), behind-servers xs (taken ++ s ∷ []) (record { ascend = more; count = are.count.2; lines = are.lines.1; light = light.1 }))

pub servers_field : IsField (AreOnce 1) (list spelled_old_server) old_servers_reading
unfolding old_servers_reading
servers_field =
    field_has (λ (xs : List Server). (length xs ≤ 32) × EachBehind FollowsServers [] xs) (AreOnce 1) (list spelled_old_server) (take_list 32 (λ taken. old_server_reading (last_of (server_ids taken))))
    (λ xs has. servers-behind xs [] has.1)
    (λ xs has. (
      omega (arith, length-Ascends (server_ids xs) 1 (omega arith) has.ascend, length-map xs (λ s. s.id)),
      behind-servers xs [] has,
    ))
    (field_list 32 FollowsServers spelled_old_server (λ taken. old_server_reading (last_of (server_ids taken))) (count_field 32 (omega arith)) (λ taken. server_field (last_of (server_ids taken))))

-- ---- members

pub record AreLightMembers (m : Members) : Type 0 where
  pub are : AreMembers m
  pub light : list_any is_heavy_server m.servers ≡ false

abbrev pub spelled_old_members : Members → List ℕ
spelled_old_members m = list spelled_old_server m.servers ++ spelled_set m.left

abbrev members_are : List Server → List ℕ → Members
members_are servers left = record { servers = servers; left = left }

members-within : (servers : List Server) (left : List ℕ) → AreOnce 1 servers → IsSet left → AreLightMembers (members_are servers left)
members-within servers left s l = record {
  are = record { servers = record { ascend = s.ascend; count = s.count }; lines = s.lines; left = l };
  light = s.light;
}

servers-within : (m : Members) → AreLightMembers m → AreOnce 1 m.servers
servers-within m has = record { ascend = has.are.servers.ascend; count = has.are.servers.count; lines = has.are.lines; light = has.light }

pub members_field : IsField AreLightMembers spelled_old_members old_members_reading
unfolding old_members_reading
members_field =
    field_two members_are (λ m. m.servers) (λ m. m.left) (AreOnce 1) IsSet (list spelled_old_server) spelled_set old_servers_reading take_set AreLightMembers spelled_old_members
    servers_field set_field
    (λ m has. (servers-within m has, has.are.left, refl, refl))
    (λ servers left s l. (members-within servers left s l, refl, refl))

-- ---- the loop

-- what a server that was read has
pub record Serves (last : ℕ) (s : Server) : Type 0 where
  pub above : last < s.id
  pub weight : 1 ≤ s.weight

pub server-ok : (last : ℕ) (s : Server) (old new : Unread) → old_server_reading last old ≡ Ok (s, new) → Serves last s
unfolding old_server_reading
server-ok last s old new e =
    let first = go_on-ok (take_id_above last old) (λ id. take_number >>= λ line. done (server_is id line)) s new e in
    let second = go_on-ok (take_number first.1) (λ line. done (server_is first.0 line)) s new first.3 in
    let same = given (server_is first.0 second.0) s second.1 new second.3 in
    rw (← same.0) record { above = (id_above-ok last first.0 old first.1 first.2).0; weight = omega arith }
