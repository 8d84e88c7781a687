-- What the lines told of a follower, behind one more item.
use Rattle.std.proofs.Common.{◌≡◌, ℕ, zero, suc, Bool, true, false, ◌||◌, ◌&&◌, List, [], ◌∷◌, ◌++◌, map, flat_map, fold, Option, Some, None, refl, sym, ap, ◌∙◌, append_assoc, append-nil, eq-eqb, if◌then◌else◌}
use Rattle.std.specs.Prelude.{◌==◌}
use Rattle.std.specs.List.{list_any}
use Rattle.std.proofs.lemmas.Bool.{cond-false}
use Rattle.std.proofs.lemmas.List.{map-append}
use Rattle.std.proofs.lemmas.List.Sums.{fold-append}
use Rattle.cg_base.specs.Lists.{present}
use Rattle.cg_disk_records.specs.Crash.{Strike}
use Rattle.cg_follow.specs.declared.event.FollowEvent.{FollowEvent}
use Rattle.cg_follow.specs.declared.event.FollowEvent.TheVariants.{Follower as Make, Feed, Stop, Recover, Weak}
use Rattle.cg_follower_list.specs.declared.follow_line.FollowLine.{FollowLine}
use Rattle.cg_follower_list.specs.declared.follow_line.FollowLine.TheVariants.{At, Down, Weak as Answers}
use Rattle.cg_items.specs.declared.companion.FurtherLine.{FurtherLine}
use Rattle.cg_items.specs.Items.{Item}
use Rattle.cg_items.specs.FollowersAgree.{follow_event_of, follow_line, follow_lines, cursor_on, cursor_shown, up_on, up_shown, is_down_line, is_at_line, shows_down, shows_cursor, armed_behind, armed_on, left_by, left_from, left_on_disk}
use Rattle.cg_base.specs.ElementLaws.{flat-append, present-append}

-- what was told: its last cursor, whether it was shown as up or as down, the stop that is armed, and what its last fall
-- left
pub record Told : Type 0 where
  pub cursor : ℕ
  pub up : Option Bool
  pub armed : Option Strike
  pub left : ℕ

abbrev pub told_of : ℕ → List Item → Told
told_of f items = record {
  cursor = cursor_shown f items;
  up = up_shown f items;
  armed = armed_on f items;
  left =
      left_on_disk f items;
}

-- behind an event, or none, and its lines; a fall leaves so much
abbrev pub told_behind : ℕ → Told → Option FollowEvent → List FollowLine → ℕ → Told
told_behind f t event lines left =
    record {
      cursor = fold (cursor_on f) t.cursor lines;
      up = fold (up_on f) t.up lines;
      armed = armed_behind event f (list_any (is_at_line f) lines) t.armed;
      left = if list_any (is_down_line f) lines then left else t.left;
    }

-- ---- items

pub lines-last : (items : List Item) (i : Item) → follow_lines (items ++ i ∷ []) ≡ follow_lines items ++ follow_lines
    (i ∷ [])
lines-last items i =
    let first : List FurtherLine = flat_map (λ (x : Item). x.lines) items in
    let new : List FurtherLine = flat_map (λ (x : Item). x.lines) (i ∷ []) in
    ap (λ (lines : List FurtherLine). present (map follow_line lines))
    (flat-append (λ (x : Item). x.lines) items (i ∷ []))
    ∙ ap (λ (lines : List (Option FollowLine)). present lines) (map-append follow_line first new)
    ∙ present-append (map follow_line first) (map follow_line new)

left-goes-on : (f : ℕ) (earlier : List Item) (left : ℕ) (items : List Item) (i : Item) →
    left_from f earlier left (items ++ i ∷ []) ≡ (if shows_down f i then left_by (earlier ++ items) f
    (follow_event_of i) else left_from f earlier left items)
left-goes-on f earlier left [] i = ap (λ (xs : List Item). if shows_down f i then left_by xs f (follow_event_of i)
    else left) (sym (append-nil earlier))
left-goes-on f earlier left (x ∷ items) i =
    let now : List Item = earlier ++ x ∷ [] in
    let next : ℕ = if shows_down f x then left_by earlier f (follow_event_of x) else left in
    left-goes-on f now next items i
    ∙ ap (λ (xs : List Item). if shows_down f i then left_by xs f (follow_event_of i) else left_from f now next items)
    (append_assoc earlier (x ∷ []) items)

pub told-last : (f : ℕ) (items : List Item) (i : Item) →
    told_of f (items ++ i ∷ []) ≡ told_behind f (told_of f items) (follow_event_of i) (follow_lines (i ∷ []))
    (left_by items f (follow_event_of i))
told-last f items i =
    let lines = lines-last items i in
    let new = follow_lines (i ∷ []) in
    let cursor : cursor_shown f (items ++ i ∷ []) ≡ fold (cursor_on f) (cursor_shown f items) new =
    ap (fold (cursor_on f) 0) lines ∙ fold-append (cursor_on f) 0 (follow_lines items) new in
    let up : up_shown f (items ++ i ∷ []) ≡ fold (up_on f) (up_shown f items) new =
    ap (fold (up_on f) None) lines ∙ fold-append (up_on f) None (follow_lines items) new in
    let armed : armed_on f (items ++ i ∷ []) ≡ armed_behind (follow_event_of i) f (shows_cursor f i)
    (armed_on f items) =
    fold-append (λ (armed : Option Strike) (x : Item). armed_behind (follow_event_of x) f (shows_cursor f x) armed)
    None items (i ∷ []) in
    let left = left-goes-on f [] 0 items i in
    (λ k. record { cursor = cursor k; up = up k; armed = armed k; left = left k })

-- ---- lines of the follower itself

module _ (f : ℕ) (t : Told) (event : Option FollowEvent) (left : ℕ) where
  itself : (f == f) ≡ true
  itself = eq-eqb f f refl

  pub told-at : (n : ℕ) → told_behind f t event (At f n ∷ []) left ≡ record {
    cursor = n;
    up = Some true;
    armed =
        armed_behind event f true t.armed;
    left = t.left;
  }
  told-at n = (λ k. record {
    cursor = if itself k then n else t.cursor;
    up = if itself k then Some true else t.up;
    armed = armed_behind event f (itself k || false) t.armed;
    left = t.left;
  })

  pub told-down : told_behind f t event (Down f ∷ []) left ≡ record {
    cursor = t.cursor;
    up = Some false;
    armed =
        armed_behind event f false t.armed;
    left = left;
  }
  told-down = (λ k. record {
    cursor = t.cursor;
    up = if itself k then Some false else t.up;
    armed = armed_behind event f false t.armed;
    left = if itself k || false then left else t.left;
  })

-- ---- events and lines of another one

abbrev pub follower_of_event : FollowEvent → ℕ
follower_of_event (Make f p) = f
follower_of_event (Feed p f count) = f
follower_of_event (Stop f call fill) = f
follower_of_event (Recover f) = f
follower_of_event (Weak f query) = f

abbrev pub follower_of_line : FollowLine → ℕ
follower_of_line (At f cursor) = f
follower_of_line (Down f) = f
follower_of_line (Answers f answer) = f

abbrev pub AreOf : ℕ → List FollowLine → Type 0
AreOf f [] = Unit {0}
AreOf f (l ∷ lines) = (follower_of_line l ≡ f) × AreOf f lines

module _ (f g : ℕ) (apart : (f == g) ≡ false) where
  pub armed-other : (e : FollowEvent) (has_fed : Bool) (armed : Option Strike) → follower_of_event e ≡ f →
      armed_behind (Some e) g has_fed armed ≡ armed
  armed-other (Make h p) has_fed armed is = cond-false (h == g) None armed (ap (λ n. n == g) is ∙ apart)
  armed-other (Feed p h count) has_fed armed is = cond-false ((h == g) && has_fed) _ armed
      (ap (λ b. b && has_fed) (ap (λ n. n == g) is ∙ apart))
  armed-other (Stop h zero fill) has_fed armed is = cond-false (h == g) None armed (ap (λ n. n == g) is ∙ apart)
  armed-other (Stop h (suc n) fill) has_fed armed is = cond-false (h == g) _ armed (ap (λ n. n == g) is ∙ apart)
  armed-other (Recover h) has_fed armed is = cond-false (h == g) None armed (ap (λ n. n == g) is ∙ apart)
  armed-other (Weak h query) has_fed armed is = refl

  cursor-other : (l : FollowLine) (n : ℕ) → follower_of_line l ≡ f → cursor_on g n l ≡ n
  cursor-other (At h cursor) n is = cond-false (h == g) cursor n (ap (λ m. m == g) is ∙ apart)
  cursor-other (Down h) n is = refl
  cursor-other (Answers h answer) n is = refl

  up-other : (l : FollowLine) (up : Option Bool) → follower_of_line l ≡ f → up_on g up l ≡ up
  up-other (At h cursor) up is = cond-false (h == g) (Some true) up (ap (λ m. m == g) is ∙ apart)
  up-other (Down h) up is = cond-false (h == g) (Some false) up (ap (λ m. m == g) is ∙ apart)
  up-other (Answers h answer) up is = refl

  down-other : (l : FollowLine) → follower_of_line l ≡ f → is_down_line g l ≡ false
  down-other (At h cursor) is = refl
  down-other (Down h) is = ap (λ m. m == g) is ∙ apart
  down-other (Answers h answer) is = refl

  cursors-other : (lines : List FollowLine) (n : ℕ) → AreOf f lines → fold (cursor_on g) n lines ≡ n
  cursors-other [] n are = refl
  cursors-other (l ∷ lines) n are = ap (λ m. fold (cursor_on g) m lines) (cursor-other l n are.0)
      ∙ cursors-other lines n are.1

  ups-other : (lines : List FollowLine) (up : Option Bool) → AreOf f lines → fold (up_on g) up lines ≡ up
  ups-other [] up are = refl
  ups-other (l ∷ lines) up are = ap (λ o. fold (up_on g) o lines) (up-other l up are.0) ∙ ups-other lines up are.1

  downs-other : (lines : List FollowLine) → AreOf f lines → list_any (is_down_line g) lines ≡ false
  downs-other [] are = refl
  downs-other (l ∷ lines) are = ap (λ b. b || list_any (is_down_line g) lines) (down-other l are.0)
      ∙ downs-other lines are.1

  pub told-other : (t : Told) (e : FollowEvent) (lines : List FollowLine) (left : ℕ) → follower_of_event e ≡ f →
      AreOf f lines → told_behind g t (Some e) lines left ≡ t
  told-other t e lines left is are =
      let cursor = cursors-other lines t.cursor are in
      let up = ups-other lines t.up are in
      let armed = armed-other e (list_any (is_at_line g) lines) t.armed is in
      let fallen : (if list_any (is_down_line g) lines then left else t.left) ≡ t.left =
      cond-false (list_any (is_down_line g) lines) left t.left (downs-other lines are) in
      (λ k. record { cursor = cursor k; up = up k; armed = armed k; left = fallen k })
