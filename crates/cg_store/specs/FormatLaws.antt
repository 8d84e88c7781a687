-- Why a disk that goes over to the newer format stands for the same state at each moment: the side in use isn't
-- touched; the other one has what it had, or no records, whatever stands at its front; or a checkpoint of the same
-- state, the later one.
use Rattle.std.proofs.Common.{◌≡◌, ℕ, suc, ◌<◌, nat_lt, Bool, true, false, List, [], ◌∷◌, Option, Some, None, sym, ◌∙◌, ap, arith}
use Rattle.std.specs.Prelude.{option_and_then}
use Rattle.std.specs.Option.{option_map}
use Rattle.std.specs.Bool.{if◌then◌else◌}
use Rattle.std.proofs.lemmas.Bool.Decides.{nat_tests}
use Rattle.cg_disk.specs.Sides.{Image, opposite}
use Rattle.cg_disk.specs.declared.disk.Side.{Side}
use Rattle.cg_disk.specs.declared.disk.Side.TheVariants.{A, B}
use Rattle.cg_journal.specs.Found.{Sides, sides, blank, found_at, with_found, front_on}
use Rattle.cg_journal.specs.Renews.{renewed}
use Rattle.cg_disk_records.specs.Stored.{Stored}
use Rattle.cg_disk_records.specs.Parts.{checkpoint_in}
use Rattle.cg_store.specs.Stands.{Live, size_of, OnDisk, standing_on, chosen}
use Rattle.cg_disk_records.specs.Checkpoint.{size_with, empty_size}
use Rattle.cg_disk_records.specs.Format.{Format}
use Rattle.cg_store.specs.Formats.{live_as, live_behind, chosen_in, Standing, format_of, with_format, standing_of, standing_on_disk, StandsFor}

-- ---- the side in use

is_not_a : B ≡ A → ⊥
is_not_a e = cc

is_not_b : A ≡ B → ⊥
is_not_b e = cc

none_is : (u : OnDisk) → None ≡ Some u → ⊥
none_is u e = cc

abbrev placed : Side → ℕ → ℕ → Stored → OnDisk
placed side generation size s = record { side = side; generation = generation; size = size; content = s }

-- what stands on a side is on that side, and of its generation
pub record IsOn (side : Side) (l : Live) (u : OnDisk) : Type 0 where
  pub side_is : u.side ≡ side
  pub generation_is : u.generation ≡ l.generation

pub on_side : (side : Side) (l : Live) (u : OnDisk) → standing_on side l ≡ Some u → IsOn side l u
on_side side l u is = at l.content is
  where
    same : (s : Stored) → Some (placed side l.generation l.size s) ≡ Some u → placed side l.generation l.size s ≡ u
    same s e = cc

    at : (content : Option Stored) → option_map (placed side l.generation l.size) content ≡ Some u → IsOn side l u
    at None e = absurd (none_is u e)
    at (Some s) e = record {
      side_is = sym (ap (λ (x : OnDisk). x.side) (same s e));
      generation_is = sym (ap (λ (x : OnDisk). x.generation) (same s e));
    }

-- ---- the other side has no records

pub without_b : (a b : Option Live) (u : OnDisk) → chosen a b ≡ Some u → u.side ≡ A → chosen a None ≡ Some u
without_b None None u is on = is
without_b (Some l) None u is on = is
without_b None (Some m) u is on = absurd (is_not_a (sym (on_side B m u is).side_is ∙ on))
without_b (Some l) (Some m) u is on = pick (nat_lt l.generation m.generation) is
  where
    pick : (b : Bool) → (if b then standing_on B m else standing_on A l) ≡ Some u → standing_on A l ≡ Some u
    pick true e = absurd (is_not_a (sym (on_side B m u e).side_is ∙ on))
    pick false e = e

pub without_a : (a b : Option Live) (u : OnDisk) → chosen a b ≡ Some u → u.side ≡ B → chosen None b ≡ Some u
without_a None None u is on = is
without_a None (Some m) u is on = is
without_a (Some l) None u is on = absurd (is_not_b (sym (on_side A l u is).side_is ∙ on))
without_a (Some l) (Some m) u is on = pick (nat_lt l.generation m.generation) is
  where
    pick : (b : Bool) → (if b then standing_on B m else standing_on A l) ≡ Some u → standing_on B m ≡ Some u
    pick true e = e
    pick false e = absurd (is_not_b (sym (on_side A l u e).side_is ∙ on))

-- ---- the other side has a later checkpoint

pub later_b : (a b : Option Live) (u : OnDisk) (new : Live) → chosen a b ≡ Some u → u.side ≡ A →
    u.generation < new.generation → chosen a (Some new) ≡ standing_on B new
later_b a b u new is on later = at a (without_b a b u is on)
  where
    at : (a : Option Live) → chosen a None ≡ Some u → chosen a (Some new) ≡ standing_on B new
    at None e = absurd (none_is u e)
    at (Some l) e =
        let same : u.generation ≡ l.generation = (on_side A l u e).generation_is in
        let less : nat_lt l.generation new.generation ≡ true = grind (arith, nat_tests) in
        λ i. if less i then standing_on B new else standing_on A l

pub later_a : (a b : Option Live) (u : OnDisk) (new : Live) → chosen a b ≡ Some u → u.side ≡ B →
    u.generation < new.generation → chosen (Some new) b ≡ standing_on A new
later_a a b u new is on later = at b (without_a a b u is on)
  where
    at : (b : Option Live) → chosen None b ≡ Some u → chosen (Some new) b ≡ standing_on A new
    at None e = absurd (none_is u e)
    at (Some m) e =
        let same : u.generation ≡ m.generation = (on_side B m u e).generation_is in
        let more : nat_lt new.generation m.generation ≡ false = grind (arith, nat_tests) in
        λ i. if more i then standing_on B m else standing_on A new

-- ---- both sides

-- a side has no records, whatever stands at its front, and the other one is in use
pub chosen_blank : (id : ℕ) (s : Sides) (u : OnDisk) (side : Side) (version : ℕ) → chosen_in id s ≡ Some u →
    u.side ≡ opposite side → chosen_in id (with_found side (blank version) s) ≡ Some u
chosen_blank id s u A version is on = without_a (live_as id s.a) (live_as id s.b) u is on
chosen_blank id s u B version is on = without_b (live_as id s.a) (live_as id s.b) u is on

-- a side of the newer format with one record, a checkpoint
newer_live : (id generation : ℕ) (body : List ℕ) (s : Stored) →
    checkpoint_in id body ≡ Some (record { generation = generation; content = s }) →
    live_as id (record { version = 2; bodies = body ∷ [] }) ≡
    Some (record { generation = generation; size = size_of (body ∷ []); content = Some s })
newer_live id generation body s is = ap (option_map (live_behind 2 (body ∷ []) [])) is

-- a checkpoint of the same state on this side, the later one
abbrev pub renewed_on : Side → List ℕ → OnDisk → OnDisk
renewed_on side body u = record {
  side = side;
  generation = suc u.generation;
  size = size_with empty_size body;
  content = u.content;
}

abbrev renewed_live : List ℕ → OnDisk → Live
renewed_live body u = record { generation = suc u.generation; size = size_of (body ∷ []); content = Some u.content }

pub chosen_renewed : (id : ℕ) (s : Sides) (u : OnDisk) (side : Side) (body : List ℕ) → chosen_in id s ≡ Some u →
    u.side ≡ opposite side →
    checkpoint_in id body ≡ Some (record { generation = suc u.generation; content = u.content }) →
    chosen_in id (renewed side body s) ≡ Some (renewed_on side body u)
chosen_renewed id s u A body is on saved =
    let less : u.generation < suc u.generation = omega arith in
    ap (λ (l : Option Live). chosen l (live_as id s.b)) (newer_live id (suc u.generation) body u.content saved)
    ∙ later_a (live_as id s.a) (live_as id s.b) u (renewed_live body u) is on less
chosen_renewed id s u B body is on saved =
    let less : u.generation < suc u.generation = omega arith in
    ap (chosen (live_as id s.a)) (newer_live id (suc u.generation) body u.content saved)
    ∙ later_b (live_as id s.a) (live_as id s.b) u (renewed_live body u) is on less

-- ---- images

pub stands_with : (id : ℕ) (c : Image) (s : Sides) (u : OnDisk) → sides c ≡ Some s → chosen_in id s ≡ Some u →
    StandsFor id c (with_format c s u)
unfolding standing_on_disk
stands_with id c s u found is = ap (option_and_then (standing_of id c)) found ∙ ap (option_map (with_format c s)) is

format_at : (side : Side) (s : Sides) (c : Image) (used : Side) (version : ℕ) → used ≡ opposite side →
    (found_at (opposite side) s).version ≡ version →
    format_of (found_at used s).version (front_on (opposite used) c) ≡ format_of version (front_on side c)
format_at A s c used version on is =
    (λ i. format_of (found_at (on i) s).version (front_on (opposite (on i)) c))
    ∙ ap (λ v. format_of v (front_on A c)) is
format_at B s c used version on is =
    (λ i. format_of (found_at (on i) s).version (front_on (opposite (on i)) c))
    ∙ ap (λ v. format_of v (front_on B c)) is

-- the side in use is of this version
pub stands_as : (id : ℕ) (c : Image) (s : Sides) (u : OnDisk) (side : Side) (version : ℕ) → sides c ≡ Some s →
    chosen_in id s ≡ Some u → u.side ≡ opposite side → (found_at (opposite side) s).version ≡ version →
    StandsFor id c (record { on = u; format = format_of version (front_on side c) })
stands_as id c s u side version found is on at =
    stands_with id c s u found is
    ∙ ap (λ (f : Format). Some (let x : Standing = record { on = u; format = f } in x))
    (format_at side s c u.side version on at)
