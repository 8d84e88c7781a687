-- Pieces as fields: a label, and a tag with what is behind it.
use Rattle.std.proofs.Common.{◌≡◌, ℕ, zero, suc, ◌≤◌, List, [], ◌++◌, append-nil, Result, Ok, Err, refl, arith}
use Rattle.cg_base.specs.Sets.{IsId}
use Rattle.cg_codec.specs.declared.fault.CodecFault.{CodecFault}
use Rattle.cg_codec.specs.Fields.{byte, number64}
use Rattle.cg_codec.specs.Reading.{whole, done}
use Rattle.cg_codec.specs.Taking.{Decodes}
use Rattle.cg_codec.specs.Laws.{IsField, IsWhole, AreBytes}
use Rattle.cg_codec.specs.FieldLaws.{field_whole, field_has, field_done, field_says}
use Rattle.cg_codec.specs.ShapeLaws.{field_two, field_three, field_tagged, variant_of_one}
use Rattle.cg_action.specs.declared.action.Action.{Action}
use Rattle.cg_action.specs.ActionLimits.{IsAction}
use Rattle.cg_action.specs.Bytes.{spelled_action}
use Rattle.cg_action.specs.Reading.{action_reading}
use Rattle.cg_action.specs.declared.entry.DbEntry.{DbEntry}
use Rattle.cg_db.specs.Limits.{IsEntry}
use Rattle.cg_records.specs.declared.primary.Primary.{Primary}
use Rattle.cg_records.specs.Limits.{IsNumber, IsPrimary}
use Rattle.cg_records.specs.Bytes.{spelled_prim}
use Rattle.cg_records.specs.Reading.{take_number, take_id_above, take_prim}
use Rattle.cg_records.specs.RecordLaws.{number_field, any_id_field, prim_field}
use Rattle.cg_disk_records.specs.declared.checkpoint.Reached.{Reached}
use Rattle.cg_disk_records.specs.Checkpoint.{spelled_entry, spelled_reached}
use Rattle.cg_disk_records.specs.Limits.{IsReached}
use Rattle.cg_disk_records.specs.Reading.{entry_reading, reached_reading}
use Rattle.cg_disk_records.specs.Laws.{Gives}
use Rattle.cg_join.specs.declared.name.SnapshotName.{SnapshotName}
use Rattle.cg_join.specs.declared.piece.Label.{Label}
use Rattle.cg_join.specs.declared.piece.SnapshotHead.{SnapshotHead}
use Rattle.cg_join.specs.declared.piece.PieceContent.{PieceContent}
use Rattle.cg_join.specs.declared.piece.PieceContent.TheVariants.{Start, Green, Entry, End}
use Rattle.cg_join.specs.declared.piece.Piece.{Piece}
use Rattle.cg_join.specs.Limits.{IsSnapshotName, IsLabel, IsHead, IsPart, IsPiece}
use Rattle.cg_join.specs.Bytes.{spelled_snapshot_name, spelled_label, spelled_head, spelled_part, spelled_piece}
use Rattle.cg_join.specs.Reading.{name_reading, label_reading, head_reading, start_reading, green_reading, entry_part_reading, part_of_tag, part_reading, piece_reading}

-- ---- the label

abbrev name_is : ℕ → ℕ → SnapshotName
name_is giver number = record { giver = giver; number = number }

name_field : IsField IsSnapshotName spelled_snapshot_name name_reading
unfolding spelled_snapshot_name name_reading
name_field =
    field_two name_is (λ n. n.giver) (λ n. n.number) IsId IsNumber byte number64 (take_id_above 0) take_number IsSnapshotName spelled_snapshot_name
    any_id_field number_field (λ n has. (has.giver, has.number, refl, refl)) (λ giver number g n. (record { giver = g; number = n }, refl, refl))

abbrev label_is : SnapshotName → ℕ → ℕ → Label
label_is name number count = record { name = name; number = number; count = count }

label_field : IsField IsLabel spelled_label label_reading
unfolding spelled_label label_reading
label_field =
    field_three label_is (λ l. l.name) (λ l. l.number) (λ l. l.count) IsSnapshotName IsNumber IsNumber spelled_snapshot_name number64 number64 name_reading take_number take_number IsLabel spelled_label
    name_field number_field number_field
    (λ l has. (has.name, has.number, has.count, refl, refl))
    (λ name number count m n k. (record { name = m; number = n; count = k }, refl, refl, refl))

-- ---- what parts bring

abbrev head_is : Primary → ℕ → Reached → SnapshotHead
head_is prim attempt_index reached = record { prim = prim; attempt_index = attempt_index; reached = reached }

-- ---- the tags, and what is behind them

abbrev part_tag : PieceContent → ℕ
part_tag (Start head) = 1
part_tag (Green action) = 2
part_tag (Entry entry) = 3
part_tag End = 4

abbrev part_behind : PieceContent → List ℕ
part_behind (Start head) = spelled_head head
part_behind (Green action) = spelled_action action
part_behind (Entry entry) = spelled_entry entry
part_behind End = []

-- a part with that tag
abbrev Brings : ℕ → PieceContent → Type 0
Brings tag p = IsPart p × (part_tag p ≡ tag)

end_field : IsField (Brings 4) part_behind (done End)
end_field =
    field_says (λ (p : PieceContent). Brings 4 p) (λ (p : PieceContent). []) part_behind (done End) spelled
    (field_has (λ (p : PieceContent). p ≡ End) (Brings 4) (λ (p : PieceContent). []) (done End) (λ p e. rw e (tt, refl)) parts (field_done End))
  where
    spelled : (p : PieceContent) → Brings 4 p → [] ≡ part_behind p
    spelled (Start head) has = absurd (omega arith)
    spelled (Green action) has = absurd (omega arith)
    spelled (Entry entry) has = absurd (omega arith)
    spelled End has = refl

    parts : (p : PieceContent) → Brings 4 p → p ≡ End
    parts (Start head) has = absurd (omega arith)
    parts (Green action) has = absurd (omega arith)
    parts (Entry entry) has = absurd (omega arith)
    parts End has = refl

-- ---- parts and pieces; what is an action, an entry, and how far greens reach, are laws of the crates below

module _ (action_field : IsField IsAction spelled_action action_reading) (entry_field : IsField IsEntry spelled_entry (entry_reading []))
    (reached_field : IsField IsReached spelled_reached reached_reading) where
  head_field : IsField IsHead spelled_head head_reading
  unfolding spelled_head head_reading
  head_field =
      field_three head_is (λ h. h.prim) (λ h. h.attempt_index) (λ h. h.reached) IsPrimary IsNumber IsReached spelled_prim number64 spelled_reached take_prim take_number reached_reading IsHead spelled_head
      prim_field number_field reached_field
      (λ h has. (has.prim, has.attempt_index, has.reached, refl, refl))
      (λ prim attempt_index reached p n r. (record { prim = p; attempt_index = n; reached = r }, refl, refl, refl))

  start_field : IsField (Brings 1) part_behind start_reading
  unfolding start_reading
  start_field =
      variant_of_one Start IsHead spelled_head head_reading (Brings 1) part_behind head_field (λ head h. ((h, refl), refl)) parts
    where
      parts : (p : PieceContent) → Brings 1 p → (head : SnapshotHead) × IsHead head × (Start head ≡ p)
      parts (Start head) has = (head, has.0, refl)
      parts (Green action) has = absurd (omega arith)
      parts (Entry entry) has = absurd (omega arith)
      parts End has = absurd (omega arith)

  green_field : IsField (Brings 2) part_behind green_reading
  unfolding green_reading
  green_field =
      variant_of_one Green IsAction spelled_action action_reading (Brings 2) part_behind action_field (λ action a. ((a, refl), refl)) parts
    where
      parts : (p : PieceContent) → Brings 2 p → (action : Action) × IsAction action × (Green action ≡ p)
      parts (Start head) has = absurd (omega arith)
      parts (Green action) has = (action, has.0, refl)
      parts (Entry entry) has = absurd (omega arith)
      parts End has = absurd (omega arith)

  entry_part_field : IsField (Brings 3) part_behind entry_part_reading
  unfolding entry_part_reading
  entry_part_field =
      variant_of_one Entry IsEntry spelled_entry (entry_reading []) (Brings 3) part_behind entry_field (λ entry e. ((e, refl), refl)) parts
    where
      parts : (p : PieceContent) → Brings 3 p → (entry : DbEntry) × IsEntry entry × (Entry entry ≡ p)
      parts (Start head) has = absurd (omega arith)
      parts (Green action) has = absurd (omega arith)
      parts (Entry entry) has = (entry, has.0, refl)
      parts End has = absurd (omega arith)

  part_of_tag_field : (tag : ℕ) → 1 ≤ tag → tag ≤ 4 → IsField (Brings tag) part_behind (part_of_tag tag)
  unfolding part_of_tag
  part_of_tag_field zero low high = absurd (omega arith)
  part_of_tag_field (suc zero) low high = start_field
  part_of_tag_field (suc (suc zero)) low high = green_field
  part_of_tag_field (suc (suc (suc zero))) low high = entry_part_field
  part_of_tag_field (suc (suc (suc (suc zero)))) low high = end_field
  part_of_tag_field (suc (suc (suc (suc (suc n))))) low high = absurd (omega arith)

  part_tags : (p : PieceContent) → IsPart p → (1 ≤ part_tag p) × (part_tag p ≤ 4)
  part_tags (Start head) has = (omega arith, omega arith)
  part_tags (Green action) has = (omega arith, omega arith)
  part_tags (Entry entry) has = (omega arith, omega arith)
  part_tags End has = (omega arith, omega arith)

  part_is : (p : PieceContent) → IsPart p → byte (part_tag p) ++ part_behind p ≡ spelled_part p
  unfolding spelled_part
  part_is (Start head) has = refl
  part_is (Green action) has = refl
  part_is (Entry entry) has = refl
  part_is End has = append-nil (byte 4)

  part_field : IsField IsPart spelled_part part_reading
  unfolding part_reading
  part_field = field_tagged part_tag 1 4 IsPart part_behind spelled_part part_of_tag (omega arith) part_tags part_is part_of_tag_field

  pub piece_field : IsField IsPiece spelled_piece piece_reading
  unfolding spelled_piece piece_reading
  piece_field =
      field_two piece_is (λ p. p.label) (λ p. p.part) IsLabel IsPart spelled_label spelled_part label_reading part_reading IsPiece spelled_piece
      label_field part_field (λ p has. (has.label, has.part, refl, refl)) (λ label part l p. (record { label = l; part = p }, refl, refl))
    where
      piece_is : Label → PieceContent → Piece
      piece_is label part = record { label = label; part = part }

  pub piece_whole : IsWhole IsPiece spelled_piece piece_reading
  piece_whole = field_whole IsPiece spelled_piece piece_reading piece_field

-- a call that gives what reading all of the bytes gives says what the bytes spell
pub given_is_spelled : IsWhole IsPiece spelled_piece piece_reading → (bytes : List ℕ) (r : Result Piece CodecFault) → AreBytes bytes → Decodes (λ p. p) (whole piece_reading bytes) r → Gives IsPiece spelled_piece bytes r
given_is_spelled exact bytes (Ok p) fits read = exact.found p bytes fits read
given_is_spelled exact bytes (Err fault) fits read = λ known p has is.
    let again : whole piece_reading bytes ≡ Ok p = rw is (exact.again p has) in
    let refused : whole piece_reading bytes ≡ Err fault = read known in
    absurd cc
