-- Lists of parts: what is pushed makes the parts of a snapshot, and how many these are.
use Rattle.std.proofs.Common.{◌≡◌, ℕ, List, [], ◌∷◌, ◌++◌, length, map, fold, append-nil, append_assoc, length-append, sym, ap, ◌∙◌, arith}
use Rattle.std.specs.Prelude.{◌-◌, slice_get, IfOk, Some, Result, Ok, Err}
use Rattle.std.specs.Option.{option_map}
use Rattle.std.proofs.lemmas.List.{length-map}
use Rattle.cg_action.specs.declared.action.Action.{Action}
use Rattle.cg_action.specs.declared.entry.DbEntry.{DbEntry}
use Rattle.cg_client.specs.Replica.{Held}
use Rattle.cg_base.specs.Lists.{Each}
use Rattle.cg_join.specs.declared.name.SnapshotName.{SnapshotName}
use Rattle.cg_join.specs.declared.piece.PieceContent.{PieceContent}
use Rattle.cg_join.specs.declared.piece.PieceContent.TheVariants.{Start, Green, Entry, End}
use Rattle.cg_join.specs.Bytes.{piece_bytes, spelled_piece}
use Rattle.cg_join.specs.Snapshot.{head_of, parts_of, with_green_part, with_entry_part, bytes_at}
use Rattle.cg_client.specs.Joined.{piece_count}

-- ---- limits

pub Each-push : {X : Type 0} (P : X → Type 0) (xs : List X) (x : X) → Each P xs → P x → Each P (xs ++ x ∷ [])
Each-push P [] x each one = (one, tt)
Each-push P (y ∷ xs) x each one = (each.0, Each-push P xs x each.1 one)

-- ---- pushes

greens_pushed : (parts : List PieceContent) (greens : List Action) → fold with_green_part parts greens ≡ parts ++ map Green greens
greens_pushed parts [] = sym (append-nil parts)
greens_pushed parts (a ∷ greens) = greens_pushed (parts ++ Green a ∷ []) greens ∙ append_assoc parts (Green a ∷ []) (map Green greens)

entries_pushed : (parts : List PieceContent) (entries : List DbEntry) → fold with_entry_part parts entries ≡ parts ++ map Entry entries
entries_pushed parts [] = sym (append-nil parts)
entries_pushed parts (e ∷ entries) = entries_pushed (parts ++ Entry e ∷ []) entries ∙ append_assoc parts (Entry e ∷ []) (map Entry entries)

-- the head, then the greens, then the entries, then the end
pub all_pushed : (h : Held) (p0 p1 p2 p3 p4 : List PieceContent) (greens : List Action) (entries : List DbEntry) → p0 ≡ [] → p1 ≡ p0 ++ Start (head_of h) ∷ [] → greens ≡ h.queue.greens → p2 ≡ fold with_green_part p1 greens
    → entries ≡ h.db → p3 ≡ fold with_entry_part p2 entries → p4 ≡ p3 ++ End ∷ [] → p4 ≡ parts_of h
all_pushed h p0 p1 p2 p3 p4 greens entries e0 e1 g e2 d e3 e4 =
    let start = Start (head_of h) ∷ [] in
    let one : p1 ≡ start = e1 ∙ ap (λ p. p ++ start) e0 in
    let two : p2 ≡ start ++ map Green h.queue.greens = e2 ∙ ap (λ p. fold with_green_part p greens) one ∙ ap (λ gs. fold with_green_part start gs) g ∙ greens_pushed start h.queue.greens in
    let three : p3 ≡ (start ++ map Green h.queue.greens) ++ map Entry h.db =
    e3 ∙ ap (λ p. fold with_entry_part p entries) two ∙ ap (λ es. fold with_entry_part (start ++ map Green h.queue.greens) es) d ∙ entries_pushed (start ++ map Green h.queue.greens) h.db in
    e4 ∙ ap (λ p. p ++ End ∷ []) three ∙ append_assoc (start ++ map Green h.queue.greens) (map Entry h.db) (End ∷ [])

-- ---- counts

pub parts_counted : (h : Held) → length (parts_of h) ≡ piece_count h
parts_counted h =
    omega (
      arith,
      length-append (map Green h.queue.greens) (map Entry h.db ++ End ∷ []),
      length-append (map Entry h.db) (End ∷ []),
      length-map h.queue.greens (λ (a : Action). Green a),
      length-map h.db (λ (e : DbEntry). Entry e),
    )

-- ---- the bytes of one

pub bytes_of_piece : (name : SnapshotName) (parts : List PieceContent) (n count : ℕ) (part : PieceContent) {E : Type 0} (r : Result (List ℕ) E) → slice_get parts (n - 1) ≡ Some part → count ≡ length parts
    → IfOk r (λ bytes. bytes ≡ piece_bytes (record { name = name; number = n; count = count }) part) → IfOk r (λ bytes. bytes_at (record { name = name; parts = parts }) n ≡ Some bytes)
unfolding spelled_piece
bytes_of_piece name parts n count part (Ok bytes) at total is =
    ap (λ p. option_map (λ x. piece_bytes (record { name = name; number = n; count = length parts }) x) p) at
    ∙ ap (λ (b : List ℕ). Some b) (sym (is ∙ ap (λ k. piece_bytes (record { name = name; number = n; count = k }) part) total))
bytes_of_piece name parts n count part (Err fault) at total is = tt
