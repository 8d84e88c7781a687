-- No session is open twice.
use Rattle.std.specs.Prelude.{◌≡◌, ℕ, ◌==◌, false, List, [], ◌∷◌, map}
use Rattle.std.specs.List.{list_any}
use Rattle.cg_session_list.specs.declared.session.Session.{Session}

-- the numbers are distinct
abbrev pub AreDistinct : List ℕ → Type 0
AreDistinct [] = Unit {0}
AreDistinct (n ∷ ns) = (list_any (λ m. m == n) ns ≡ false) × AreDistinct ns

-- the numbers of the sessions
abbrev pub ids : List Session → List ℕ
ids sessions = map (λ o. o.id) sessions

abbrev pub AreApart : List Session → Type 0
AreApart sessions = AreDistinct (ids sessions)
