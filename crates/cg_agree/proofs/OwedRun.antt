-- Behind the steps of a run each replica that is up owes the replies to those of its own actions that it has created in its life and
-- that aren't green, and those are the actions whose creator lives since it created them: what that says, and what a step shows.
use Rattle.std.proofs.Common.{◌≡◌, ℕ, suc, ◌+◌, ◌-◌, ◌≤◌, max, nat_lt, nat_le, Bool, true, false, ◌&&◌, ◌||◌, List, [], ◌∷◌, ◌++◌, fold, find, Option, Some, None, IfSome, Contains, refl, sym, ap, ap₂, ◌∙◌, inl, inr, arith, append-nil, append_assoc}
use Rattle.std.specs.Prelude.{◌==◌}
use Rattle.std.specs.Option.{option_map_or}
use Rattle.std.proofs.lemmas.Bool.{cases_lt, cases_Bool, cond-true, cond-false, lt-ltb, le-ltb, lt-leb, le-leb}
use Rattle.cg_base.specs.Cuts.{index_in}
use Rattle.cg_report.specs.declared.line.Line.{Line}
use Rattle.cg_client.specs.Replica.{Held, Replica, created}
use Rattle.cg_model.specs.World.{Node, World, node_of, replica_of}
use Rattle.cg_model.specs.Show.{Moved, line_of, ended}
use Rattle.cg_model.specs.Step.{happens, world_step}
use Rattle.cg_model.specs.Run.{Step}
use Rattle.cg_model.specs.Shown.{lines_in}
use Rattle.cg_model.specs.Agreement.{through, lives_since}
use Rattle.cg_model.specs.Looks.{disk_held}
use Rattle.cg_model.specs.Telling.{latest, last_line, printed}
use Rattle.cg_agree.proofs.RunSteps.{IsStepAt, StandsFor}
use Rattle.cg_agree_lemmas.specs.RepliesPlaced.{plain}
use Rattle.cg_agree_lemmas.specs.OwedNames.{own_name, own_names}
use Rattle.cg_agree_lemmas.specs.StepSays.{IsOwing}
use Rattle.cg_model.specs.RunLaws.{world_of}

-- the replica owes the replies to its own actions behind a number, and its own actions behind that number are those that it lives since
pub record LivesOf (steps : List Step) (p : ℕ) (r : Replica) : Type 0 where
  pub base : ℕ
  pub owing : IsOwing p base r.held
  pub lives : (i : ℕ) → lives_since (own_name p i) steps ≡ (nat_lt base i && nat_le i (created r.held))

abbrev pub LivesAt : List Step → ℕ → Option Replica → Type 0
LivesAt steps p None = (i : ℕ) → lives_since (own_name p i) steps ≡ false
LivesAt steps p (Some r) = LivesOf steps p r

-- and no reply is owed as the disk has it
pub record OwedAt (steps : List Step) (p : ℕ) : Type 0 where
  pub disk : IfSome (disk_held (world_of steps) p) (λ h. h.owed ≡ [])
  pub lives : LivesAt steps p (replica_of (world_of steps) p)

-- ---- numbers

-- behind a number and up to another one, or behind that one and up to a third
pub joined-range : (base m n i : ℕ) → base ≤ m → (((nat_lt base i && nat_le i m) && true) || ((nat_lt m i && nat_le i (m + n)) && true)) ≡ (nat_lt base i && nat_le i (m + n))
joined-range base m n i low = elim (cases_lt m i) [
  | inl above ↦
      ap₂ (λ a b. ((a && b) && true) || ((nat_lt m i && nat_le i (m + n)) && true)) (lt-ltb base i (omega arith)) (lt-leb i m above)
      ∙ ap (λ a. (a && nat_le i (m + n)) && true) (lt-ltb m i above)
      ∙ both (nat_le i (m + n)) ∙ sym (ap (λ a. a && nat_le i (m + n)) (lt-ltb base i (omega arith)))
  | inr below ↦
      ap₂ (λ a b. ((nat_lt base i && a) && true) || ((b && nat_le i (m + n)) && true)) (le-leb i m (omega arith)) (le-ltb m i (omega arith))
      ∙ ends (nat_lt base i) ∙ sym (ap (λ b. nat_lt base i && b) (le-leb i (m + n) (omega arith)))
] where
  both : (b : Bool) → (b && true) ≡ b
  both true = refl
  both false = refl

  ends : (a : Bool) → (((a && true) && true) || false) ≡ (a && true)
  ends true = refl
  ends false = refl

-- behind a number and up to it there is none
pub none-range : (n i : ℕ) → (nat_lt n i && nat_le i n) ≡ false
none-range n i = elim (cases_lt n i) [
  | inl above ↦ ap₂ (λ a b. a && b) (lt-ltb n i above) (lt-leb i n above)
  | inr below ↦ ap (λ a. a && nat_le i n) (le-ltb n i (omega arith))
]

-- who owes nothing owes the replies behind all that it has created
pub owes-none : (p : ℕ) (h : Held) → h.owed ≡ [] → index_in h.queue.green_cut p ≤ created h → IsOwing p (created h) h
owes-none p h none green =
    let m = created h in
    let g = index_in h.queue.green_cut p in
    let count : m - max g m ≡ 0 = omega arith in
    record { low = omega arith; owed = none ∙ sym (ap (own_names p (max g m)) count) }

-- ---- what a step of a run shows

pub record StepShows (earlier : List Step) (s : Step) : Type 0 where
  pub nodes : (world_of (through earlier s)).nodes ≡ (happens (world_of earlier) s.event).world.nodes
  pub made : s.entry.made ≡ (happens (world_of earlier) s.event).made
  pub replies : s.entry.replies ≡ plain (happens (world_of earlier) s.event).replies

pub step-shows : (earlier : List Step) (s : Step) → IsStepAt earlier s → StepShows earlier s
unfolding world_step ended
step-shows earlier s is = record {
  nodes = ap (λ (w : World). w.nodes) (is.world ∙ ap (λ (m : Moved). m.world) is.moved);
  made = ap (λ (m : Moved). m.entry.made) is.moved;
  replies = ap (λ (m : Moved). m.entry.replies) is.moved;
}

pub found-there : (nodes : List Node) (p : ℕ) (s : Node) → find (λ s. s.id == p) nodes ≡ Some s → Contains nodes s
found-there [] p s found = absurd (let clash : None ≡ Some s = found in cc)
found-there (x ∷ nodes) p s found = elim (cases_Bool (x.id == p)) [
  | inl here ↦ (0, omega arith, one x s (sym (cond-true (x.id == p) (Some x) (find (λ s. s.id == p) nodes) here) ∙ found))
  | inr other ↦ (let rest = found-there nodes p s (sym (cond-false (x.id == p) (Some x) (find (λ s. s.id == p) nodes) other) ∙ found) in (suc rest.0, (let less = rest.1 in omega arith), rest.2))
] where
  one : (x y : Node) → Some x ≡ Some y → x ≡ y
  one x y e = ap (λ (o : Option Node). option_map_or (λ z. z) o x) e

pub lines-both : (xs : List Step) (s : Step) → lines_in (xs ++ s ∷ []) ≡ lines_in xs ++ s.entry.lines
lines-both [] s = append-nil s.entry.lines
lines-both (x ∷ xs) s = ap (λ list. x.entry.lines ++ list) (lines-both xs s) ∙ sym (append_assoc x.entry.lines (lines_in xs) s.entry.lines)

pub lines-fold : (p : ℕ) (xs ys : List Line) (o : Option Line) → fold (latest p) o (xs ++ ys) ≡ fold (latest p) (fold (latest p) o xs) ys
lines-fold p [] ys o = refl
lines-fold p (x ∷ xs) ys o = lines-fold p xs ys (latest p o x)

-- the last line of a replica that is hosted
pub last-is : (steps : List Step) (f : StandsFor steps) (p : ℕ) (s : Node) → node_of (world_of steps) p ≡ Some s → s.id ≡ p → last_line p steps ≡ Some (line_of (world_of steps).group s)
last-is steps f p s found id =
    let w = world_of steps in
    sym (f.tells.shown p) ∙ ap (λ n. printed w n) (sym id) ∙ f.tells.stands s (found-there w.nodes p s found)
