-- A follower that stands otherwise from now on, and its line.
use Rattle.std.specs.Prelude.{◌≡◌, ℕ, suc, ◌≤◌, nat_eq, List, [], ◌∷◌, Option, Some, None, if◌then◌else◌}
use Rattle.std.specs.Option.{option_eq, option_to_list}
use Rattle.cg_follower_list.specs.declared.follow_line.FollowLine.{FollowLine}
use Rattle.cg_follower_list.specs.Life.{Life, Up, Fallen, Follower}
use Rattle.cg_follower_list.specs.Followers.{FollowersNoted, follower_at, with_follower, cursor_in, line_of}

-- the numbers ascend, from the given one on
abbrev pub Ascending : ℕ → List Follower → Type 0
Ascending low [] = Unit {0}
Ascending low (x ∷ fs) = (low ≤ x.id) × Ascending (suc x.id) fs

-- each follower stands once, in the order of the numbers
pub record AreListed (fs : List Follower) : Type 0 where
  pub ascends : Ascending 0 fs

-- the cursor that was last shown, where this one was before
abbrev pub next_shown : ℕ → Life → ℕ
next_shown shown (Up now armed) = now.cursor
next_shown shown (Fallen left) = shown

-- the line between two cursors, where they differ
abbrev pub line_between : ℕ → Option ℕ → Option ℕ → List FollowLine
line_between f before after = if option_eq nat_eq before after then [] else line_of f after ∷ []

-- a follower that stands so from now on
abbrev pub turned : Follower → Life → Follower
turned x life = record { id = x.id; shown = next_shown x.shown life; life = life }

-- it stands so, and its line is this one, where one is due
abbrev pub Turns : Follower → Life → Follower × Option FollowLine → Type 0
Turns x life r = (r.0 ≡ turned x life) × (option_to_list r.1 ≡ line_between x.id (cursor_in x.life) (cursor_in life))

-- the followers, and the line that is due, if there is one
abbrev pub noted : List Follower → Option FollowLine → FollowersNoted
noted fs line = record { followers = fs; lines = option_to_list line }

-- the follower of this number was taken out, where there was one: then there is none
abbrev pub IsTaken : List Follower → List Follower → ℕ → Option Follower → Type 0
IsTaken old new f None = (follower_at old f ≡ None) × (new ≡ old)
IsTaken old new f (Some x) = (follower_at old f ≡ Some x) × (x.id ≡ f) × ((t : Follower) → t.id ≡ f →
    with_follower new t ≡ with_follower old t)
