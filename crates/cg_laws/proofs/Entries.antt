-- Entries are told apart before another one, or before nothing.
use Rattle.std.proofs.Common.{◌≡◌, ℕ, suc, Bool, true, false, List, [], ◌∷◌, ◌++◌, codes, flat_map, length, nat_lt, eqb, ◌&&◌, refl, ap, ◌∙◌, arith}
use Rattle.std.specs.Prelude.{◌==◌, if◌then◌else◌}
use Rattle.std.proofs.lemmas.Bool.{eqb-true, eq-eqb, ltb-true, lt-ltb, ne_eqb}
use Rattle.std.proofs.lemmas.List.{nil_from_length}
use Rattle.cg_text.specs.Numbers.{is_digit}
use Rattle.cg_base.specs.Lists.{Each}
use Rattle.cg_report.specs.declared.entry.Shown.{Shown}
use Rattle.cg_report.specs.declared.entry.Shown.TheVariants.{Weak}
use Rattle.cg_report.specs.declared.line.Line.{Line}
use Rattle.cg_report.specs.declared.entry.Entry.{Entry}
use Rattle.cg_report.specs.EntryText.{order_line, ended_line, reply_line, shown_line, body_text, is_silent}
use Rattle.cg_report.specs.NoEntry.{no_entry}
use Rattle.cg_report.specs.LineText.{up_text}
use Rattle.cg_short.specs.Short.{IsShortPlaced, IsShortLine, IsShortReply, IsShortShown, IsShortEntry}
use Rattle.cg_laws.proofs.Separating.{Separates, anything, one, left_true, right_true, before, joined, on, within, same, listed, over_list}
use Rattle.cg_laws.proofs.Numbers.{begins-digit, digit-other}
use Rattle.cg_laws.proofs.Lines.{line}
use Rattle.cg_laws.proofs.Shows.{made, order, reply, shown}

-- ---- the lines of an entry, kind by kind

-- where a line stands in its entry, by its first byte; the next entry, or nothing, stands behind all
abbrev pub place_of : List ℕ → ℕ
place_of [] = 6
place_of (byte ∷ bytes) = if byte == 109 then 1 else if byte == 111 then 2 else if is_digit byte then 3 else if byte == 114 then 4 else if byte == 61 then 6 else 5

-- what comes next stands behind the place
abbrev pub past : ℕ → List ℕ → Bool
past k u = nat_lt k (place_of u)

past-later : (k : ℕ) (u : List ℕ) → past (suc k) u ≡ true → past k u ≡ true
past-later k u later = lt-ltb k (place_of u) (omega (arith, ltb-true (suc k) (place_of u) later))

past-other : (k : ℕ) (u : List ℕ) → past k u ≡ true → eqb (place_of u) k ≡ false
past-other k u later = ne_eqb (place_of u) k (λ e. omega (arith, ltb-true k (place_of u) later, e))

-- all lines of one kind
lines_at : {A : Type 0} {H : A → Type 0} {f : A → List ℕ} (k : ℕ) → ((x : A) (u : List ℕ) → H x → place_of (f x ++ u) ≡ k) → Separates anything H f one → Separates (past k) (Each H) (flat_map f) one
lines_at {f = f} k stands s = listed (record {
  starts = λ u. eqb (place_of u) k;
  item_begins = λ x u h. eq-eqb (place_of (f x ++ u)) k (stands x u h);
  end_begins = past-other k;
  item_follows = λ x u h. refl;
  end_follows = λ u ends. refl;
}) s

-- behind those of the kind before
lines-follow : {A : Type 0} (H : A → Type 0) (f : A → List ℕ) (k : ℕ) → ((x : A) (u : List ℕ) → H x → place_of (f x ++ u) ≡ suc k) → (xs : List A) (u : List ℕ) → Each H xs → past (suc k) u ≡ true
    → past k (flat_map f xs ++ u) ≡ true
lines-follow H f k stands xs u each later = over_list (past k) H f (λ x w h. rw (stands x w h) (lt-ltb k (suc k) (omega arith))) xs u each (past-later k u later)

line-stands : (l : Line) (u : List ℕ) → IsShortLine l → place_of (ended_line l ++ u) ≡ 3
line-stands l u h =
    let first = begins-digit l.id h.0 in
    ap (λ ds. place_of (ds ++ codes " " ++ up_text l.up ++ codes "\n" ++ u)) first.2 ∙ digit first.0 (first.1 ++ codes " " ++ up_text l.up ++ codes "\n" ++ u) first.3
  where
    digit : (d : ℕ) (ds : List ℕ) → is_digit d ≡ true → place_of (d ∷ ds) ≡ 3
    digit d ds is = rw (digit-other d 109 is refl, digit-other d 111 is refl, is) refl

shown-stands : (s : Shown) (u : List ℕ) → place_of (shown_line s ++ u) ≡ 5
shown-stands (Weak p a) u = refl
shown-stands _ u = refl

pub body : Separates (past 5) IsShortEntry body_text one
body =
    within (λ e h. ((((h.made, h.orders), h.lines), h.replies), h.shown))
    (same (λ x y e i. record { made = e.0.0.0.0 i; orders = e.0.0.0.1 i; lines = e.0.0.1 i; replies = e.0.1 i; shown = e.1 i })
    (joined (λ e u h later. lines-follow IsShortShown shown_line 4 (λ s w k. shown-stands s w) e.shown u h later)
    (joined (λ e u h later. lines-follow IsShortReply reply_line 3 (λ r w k. refl) e.replies u h later)
    (joined (λ e u h later. lines-follow IsShortLine ended_line 2 line-stands e.lines u h later)
    (joined (λ e u h later. lines-follow IsShortPlaced order_line 1 (λ o w k. refl) e.orders u h later)
    (on (λ (e : Entry). e.made) (lines_at 1 (λ m u h. refl) (before (codes "\n") (λ u h. refl) made)))
    (on (λ (e : Entry). e.orders) (lines_at 2 (λ o u h. refl) (before (codes "\n") (λ u h. refl) order))))
    (on (λ (e : Entry). e.lines) (lines_at 3 line-stands (before (codes "\n") (λ u h. refl) line))))
    (on (λ (e : Entry). e.replies) (lines_at 4 (λ r u h. refl) (before (codes "\n") (λ u h. refl) reply))))
    (on (λ (e : Entry). e.shown) (lines_at 5 (λ s u h. shown-stands s u) (before (codes "\n") (λ u h. refl) shown)))))

-- ---- silent entries

none-from : {A : Type 0} (xs : List A) → (length xs == 0) ≡ true → xs ≡ []
none-from xs e = nil_from_length xs (eqb-true _ _ e)

pub silent-is : (e : Entry) → is_silent e ≡ true → e ≡ no_entry
silent-is e silent =
    let a : (length e.made == 0) && (length e.orders == 0) && (length e.lines == 0) && (length e.replies == 0) ≡ true = left_true _ _ silent in
    let b : (length e.made == 0) && (length e.orders == 0) && (length e.lines == 0) ≡ true = left_true _ _ a in
    let c : (length e.made == 0) && (length e.orders == 0) ≡ true = left_true _ _ b in
    λ i. record {
      made = none-from e.made (left_true _ _ c) i;
      orders = none-from e.orders (right_true _ _ c) i;
      lines = none-from e.lines (right_true _ _ b) i;
      replies = none-from e.replies (right_true _ _ a) i;
      shown = none-from e.shown (right_true _ _ silent) i;
    }
