-- Commands and queries are read as they are spelled.
use Rattle.std.proofs.Common.{◌≡◌, ℕ, Bool, true, false, cond, List, [], ◌∷◌, ◌++◌, Option, Ok, refl, ap, codes}
use Rattle.std.specs.Prelude.{ℤ, FitsSigned}
use Rattle.std.specs.Fmt.{signed_decimal}
use Rattle.std.specs.Int.{w64}
use Rattle.cg_text.specs.Order.{same_text}
use Rattle.cg_text.specs.Quoted.{quoted}
use Rattle.cg_action.specs.declared.value.Value.{Value}
use Rattle.cg_action.specs.declared.command.Cmd.{Cmd}
use Rattle.cg_action.specs.declared.command.Cmd.TheVariants.{Put, Del, Inc, Cas, Move, Need}
use Rattle.cg_action.specs.declared.query.Query.{Query}
use Rattle.cg_action.specs.declared.query.Query.TheVariants.{Get, Keys, Count}
use Rattle.cg_action.specs.Limits.{IsKeyOf, IsCommandOf}
use Rattle.cg_action.specs.Print.{value_text, want_text}
use Rattle.cg_schedule.specs.Reading.{Reading, ◌>>=◌, done, token_part}
use Rattle.cg_schedule.specs.Part.{text, integer, amount, value, want, text_part, integer_part, amount_part, value_part, want_part}
use Rattle.cg_schedule.specs.Command.{key_part, prefix_part, put_reading, del_reading, inc_reading, cas_reading, move_reading, need_reading, command_of, query_of, query_reading}
use Rattle.cg_schedule.specs.Limits.{IsPrintable, IsQuery}
use Rattle.cg_schedule.specs.PartLaws.{Anything, Found, Makes, IsPart, given, part-token, made, bound}
use Rattle.cg_schedule.proofs.TokenParts.{TextFacts, IsAmount, IsValue, IsWant, text_token, integer_token, amount_token, value_token, want_token}
use Rattle.cg_text.specs.OrderLaws.{same_text-is}

-- ---- parts of one token

abbrev IsKey : List ℕ → Type 0
IsKey = IsKeyOf IsPrintable

key_is : TextFacts → IsPart Anything IsKey (λ t. quoted t ∷ []) key_part
unfolding text_part
key_is facts = part-token IsKey quoted (text 1 64) (text_token facts 1 64)

prefix_is : TextFacts → IsPart Anything (IsPrintable 0 64) (λ t. quoted t ∷ []) prefix_part
unfolding text_part
prefix_is facts = part-token (IsPrintable 0 64) quoted (text 0 64) (text_token facts 0 64)

integer_is : TextFacts → IsPart Anything (FitsSigned w64) (λ n. signed_decimal n ∷ []) integer_part
unfolding integer_part
integer_is facts = part-token (FitsSigned w64) signed_decimal integer (integer_token facts)

amount_is : TextFacts → IsPart Anything IsAmount (λ n. signed_decimal n ∷ []) amount_part
unfolding amount_part
amount_is facts = part-token IsAmount signed_decimal amount (amount_token facts)

value_is : TextFacts → IsPart Anything IsValue (λ v. value_text v ∷ []) value_part
unfolding value_part
value_is facts = part-token IsValue value_text value (value_token facts)

want_is : TextFacts → IsPart Anything IsWant (λ o. want_text o ∷ []) want_part
unfolding want_part
want_is facts = part-token IsWant want_text want (want_token facts)

-- ---- the parts of each command

put_makes : TextFacts → Makes Anything (λ (x : List ℕ × Value). IsKey x.0 × IsValue x.1) (λ (x : List ℕ × Value). (quoted x.0 ∷ []) ++ (value_text x.1 ∷ [])) (λ (x : List ℕ × Value). Put x.0 x.1) put_reading
unfolding put_reading
put_makes facts =
    bound Anything IsKey (λ k. quoted k ∷ []) key_part IsValue (λ v. value_text v ∷ []) (λ k v. Put k v) (λ k. value_part >>= λ v. done (Put k v)) (key_is facts)
    (λ k. made Anything IsValue (λ v. value_text v ∷ []) (λ v. Put k v) value_part (value_is facts))

del_makes : TextFacts → Makes Anything IsKey (λ k. quoted k ∷ []) (λ k. Del k) del_reading
unfolding del_reading
del_makes facts = made Anything IsKey (λ k. quoted k ∷ []) (λ k. Del k) key_part (key_is facts)

inc_makes : TextFacts → Makes Anything (λ (x : List ℕ × ℤ). IsKey x.0 × FitsSigned w64 x.1) (λ (x : List ℕ × ℤ). (quoted x.0 ∷ []) ++ (signed_decimal x.1 ∷ [])) (λ (x : List ℕ × ℤ). Inc x.0 x.1) inc_reading
unfolding inc_reading
inc_makes facts =
    bound Anything IsKey (λ k. quoted k ∷ []) key_part (FitsSigned w64) (λ n. signed_decimal n ∷ []) (λ k n. Inc k n) (λ k. integer_part >>= λ n. done (Inc k n)) (key_is facts)
    (λ k. made Anything (FitsSigned w64) (λ n. signed_decimal n ∷ []) (λ n. Inc k n) integer_part (integer_is facts))

-- what a key is wanted to have, and a value
swap_makes : TextFacts → (k : List ℕ) → Makes Anything (λ (x : Option Value × Value). IsWant x.0 × IsValue x.1) (λ (x : Option Value × Value). (want_text x.0 ∷ []) ++ (value_text x.1 ∷ [])) (λ (x : Option Value × Value). Cas k x.0 x.1) (want_part >>= λ o. value_part >>= λ v. done (Cas k o v))
swap_makes facts k =
    bound Anything IsWant (λ o. want_text o ∷ []) want_part IsValue (λ v. value_text v ∷ []) (λ o v. Cas k o v) (λ o. value_part >>= λ v. done (Cas k o v)) (want_is facts)
    (λ o. made Anything IsValue (λ v. value_text v ∷ []) (λ v. Cas k o v) value_part (value_is facts))

abbrev swap_tokens : Option Value × Value → List (List ℕ)
swap_tokens x = (want_text x.0 ∷ []) ++ (value_text x.1 ∷ [])

cas_makes : TextFacts → Makes Anything (λ (x : List ℕ × (Option Value × Value)). IsKey x.0 × (IsWant x.1.0 × IsValue x.1.1)) (λ (x : List ℕ × (Option Value × Value)). (quoted x.0 ∷ []) ++ swap_tokens x.1) (λ (x : List ℕ × (Option Value × Value)). Cas x.0 x.1.0 x.1.1) cas_reading
unfolding cas_reading
cas_makes facts =
    bound Anything IsKey (λ k. quoted k ∷ []) key_part (λ (x : Option Value × Value). IsWant x.0 × IsValue x.1) swap_tokens (λ k (x : Option Value × Value). Cas k x.0 x.1) (λ k. want_part >>= λ o. value_part >>= λ v. done (Cas k o v)) (key_is facts)
    (swap_makes facts)

abbrev moved_tokens : List ℕ × ℤ → List (List ℕ)
moved_tokens x = (quoted x.0 ∷ []) ++ (signed_decimal x.1 ∷ [])

moved_makes : TextFacts → (s : List ℕ) → Makes Anything (λ (x : List ℕ × ℤ). IsKey x.0 × IsAmount x.1) moved_tokens (λ (x : List ℕ × ℤ). Move s x.0 x.1) (key_part >>= λ t. amount_part >>= λ n. done (Move s t n))
moved_makes facts s =
    bound Anything IsKey (λ t. quoted t ∷ []) key_part IsAmount (λ n. signed_decimal n ∷ []) (λ t n. Move s t n) (λ t. amount_part >>= λ n. done (Move s t n)) (key_is facts)
    (λ t. made Anything IsAmount (λ n. signed_decimal n ∷ []) (λ n. Move s t n) amount_part (amount_is facts))

move_makes : TextFacts → Makes Anything (λ (x : List ℕ × (List ℕ × ℤ)). IsKey x.0 × (IsKey x.1.0 × IsAmount x.1.1)) (λ (x : List ℕ × (List ℕ × ℤ)). (quoted x.0 ∷ []) ++ moved_tokens x.1) (λ (x : List ℕ × (List ℕ × ℤ)). Move x.0 x.1.0 x.1.1) move_reading
unfolding move_reading
move_makes facts =
    bound Anything IsKey (λ s. quoted s ∷ []) key_part (λ (x : List ℕ × ℤ). IsKey x.0 × IsAmount x.1) moved_tokens (λ s (x : List ℕ × ℤ). Move s x.0 x.1) (λ s. key_part >>= λ t. amount_part >>= λ n. done (Move s t n)) (key_is facts)
    (moved_makes facts)

need_makes : TextFacts → Makes Anything (λ (x : List ℕ × Option Value). IsKey x.0 × IsWant x.1) (λ (x : List ℕ × Option Value). (quoted x.0 ∷ []) ++ (want_text x.1 ∷ [])) (λ (x : List ℕ × Option Value). Need x.0 x.1) need_reading
unfolding need_reading
need_makes facts =
    bound Anything IsKey (λ k. quoted k ∷ []) key_part IsWant (λ o. want_text o ∷ []) (λ k o. Need k o) (λ k. want_part >>= λ o. done (Need k o)) (key_is facts)
    (λ k. made Anything IsWant (λ o. want_text o ∷ []) (λ o. Need k o) want_part (want_is facts))

-- ---- a command by its word

unfoldable pub command_tokens : Cmd → List (List ℕ)
command_tokens (Put key value) = codes "put" ∷ quoted key ∷ value_text value ∷ []
command_tokens (Del key) = codes "del" ∷ quoted key ∷ []
command_tokens (Inc key by) = codes "inc" ∷ quoted key ∷ signed_decimal by ∷ []
command_tokens (Cas key want value) = codes "cas" ∷ quoted key ∷ want_text want ∷ value_text value ∷ []
command_tokens (Move source target amount) = codes "move" ∷ quoted source ∷ quoted target ∷ signed_decimal amount ∷ []
command_tokens (Need key want) = codes "need" ∷ quoted key ∷ want_text want ∷ []

abbrev pub command_reading : Reading Cmd
command_reading = token_part >>= command_of

-- the reading of one word, or that of the others
worded : {Y : Type 0} (word w : List ℕ) (here others : Reading Y) (left : List (List ℕ)) (y : Y) (new : List (List ℕ)) (P : Type 0) → (word ≡ w → here left ≡ Ok (y, new) → P) → (others left ≡ Ok (y, new) → P)
    → (b : Bool) → same_text word w ≡ b → (cond b here others) left ≡ Ok (y, new) → P
worded word w here others left y new P first rest true same e = first (same_text-is word w same) e
worded word w here others left y new P first rest false same e = rest e

abbrev pub IsCommand : Cmd → Type 0
IsCommand = IsCommandOf IsPrintable

command_again : TextFacts → (cmd : Cmd) (left : List (List ℕ)) → IsCommand cmd → command_reading (command_tokens cmd ++ left) ≡ Ok (cmd, left)
unfolding command_of command_tokens
command_again facts (Put key value) left has = (put_makes facts).again (key, value) left tt has
command_again facts (Del key) left has = (del_makes facts).again key left tt has
command_again facts (Inc key by) left has = (inc_makes facts).again (key, by) left tt has
command_again facts (Cas key want value) left has = (cas_makes facts).again (key, (want, value)) left tt (has.0, (has.1, has.2))
command_again facts (Move source target amount) left has = (move_makes facts).again (source, (target, amount)) left tt (has.0, (has.1, (has.2, has.3)))
command_again facts (Need key want) left has = (need_makes facts).again (key, want) left tt has

abbrev CommandFound : List ℕ → List (List ℕ) → Cmd → List (List ℕ) → Type 0
CommandFound word left cmd new = IsCommand cmd × (word ∷ left ≡ command_tokens cmd ++ new)

command_found : TextFacts → (word : List ℕ) (left : List (List ℕ)) (cmd : Cmd) (new : List (List ℕ)) → command_of word left ≡ Ok (cmd, new) → CommandFound word left cmd new
unfolding command_of command_tokens
command_found facts word left cmd new e =
    worded word (codes "put") _ _ left cmd new (CommandFound word left cmd new) (λ is r. let f = (put_makes facts).found cmd left new r in rw (is, ← f.is) (f.has, ap (λ (t : List (List ℕ)). codes "put" ∷ t) f.tokens)) (λ e2.
    worded word (codes "del") _ _ left cmd new (CommandFound word left cmd new) (λ is r. let f = (del_makes facts).found cmd left new r in rw (is, ← f.is) (f.has, ap (λ (t : List (List ℕ)). codes "del" ∷ t) f.tokens)) (λ e3.
    worded word (codes "inc") _ _ left cmd new (CommandFound word left cmd new) (λ is r. let f = (inc_makes facts).found cmd left new r in rw (is, ← f.is) (f.has, ap (λ (t : List (List ℕ)). codes "inc" ∷ t) f.tokens)) (λ e4.
    worded word (codes "cas") _ _ left cmd new (CommandFound word left cmd new) (λ is r. let f = (cas_makes facts).found cmd left new r in rw (is, ← f.is) ((f.has.0, f.has.1.0, f.has.1.1), ap (λ (t : List (List ℕ)). codes "cas" ∷ t) f.tokens)) (λ e5.
    worded word (codes "move") _ _ left cmd new (CommandFound word left cmd new) (λ is r. let f = (move_makes facts).found cmd left new r in rw (is, ← f.is) ((f.has.0, f.has.1.0, f.has.1.1.0, f.has.1.1.1), ap (λ (t : List (List ℕ)). codes "move" ∷ t) f.tokens)) (λ e6.
    worded word (codes "need") _ _ left cmd new (CommandFound word left cmd new) (λ is r. let f = (need_makes facts).found cmd left new r in rw (is, ← f.is) (f.has, ap (λ (t : List (List ℕ)). codes "need" ∷ t) f.tokens)) (λ e7. absurd cc)
    (same_text word (codes "need")) refl e6) (same_text word (codes "move")) refl e5) (same_text word (codes "cas")) refl e4) (same_text word (codes "inc")) refl e3) (same_text word (codes "del")) refl e2) (same_text word (codes "put")) refl e

pub command_is : TextFacts → IsPart Anything IsCommand command_tokens command_reading
command_is facts = record { again = λ cmd left ends has. command_again facts cmd left has; found = found } where
  found : (cmd : Cmd) (old new : List (List ℕ)) → command_reading old ≡ Ok (cmd, new) → Found IsCommand command_tokens (λ (c : Cmd). c) cmd old new
  found cmd [] new e = absurd cc
  found cmd (word ∷ left) new e =
      let f = command_found facts word left cmd new e in
      record { from = cmd; is = refl; has = f.0; tokens = f.1 }

-- ---- queries

unfoldable pub query_tokens : Query → List (List ℕ)
query_tokens (Get key) = codes "get" ∷ quoted key ∷ []
query_tokens (Keys prefix) = codes "keys" ∷ quoted prefix ∷ []
query_tokens Count = codes "count" ∷ []

get_makes : TextFacts → Makes Anything IsKey (λ k. quoted k ∷ []) (λ k. Get k) (key_part >>= λ k. done (Get k))
get_makes facts = made Anything IsKey (λ k. quoted k ∷ []) (λ k. Get k) key_part (key_is facts)

keys_makes : TextFacts → Makes Anything (IsPrintable 0 64) (λ k. quoted k ∷ []) (λ k. Keys k) (prefix_part >>= λ k. done (Keys k))
keys_makes facts = made Anything (IsPrintable 0 64) (λ k. quoted k ∷ []) (λ k. Keys k) prefix_part (prefix_is facts)

query_again : TextFacts → (query : Query) (left : List (List ℕ)) → IsQuery query → query_reading (query_tokens query ++ left) ≡ Ok (query, left)
unfolding query_reading query_of query_tokens
query_again facts (Get key) left has = (get_makes facts).again key left tt has
query_again facts (Keys prefix) left has = (keys_makes facts).again prefix left tt has
query_again facts Count left has = refl

abbrev QueryFound : List ℕ → List (List ℕ) → Query → List (List ℕ) → Type 0
QueryFound word left query new = IsQuery query × (word ∷ left ≡ query_tokens query ++ new)

count_found : (word : List ℕ) (left : List (List ℕ)) (query : Query) (new : List (List ℕ)) → word ≡ codes "count" → done Count left ≡ Ok (query, new) → QueryFound word left query new
unfolding query_tokens
count_found word left query new is e =
    let g = given Count query left new e in
    rw (is, ← g.0, g.1) (tt, refl)

query_found : TextFacts → (word : List ℕ) (left : List (List ℕ)) (query : Query) (new : List (List ℕ)) → query_of word left ≡ Ok (query, new) → QueryFound word left query new
unfolding query_of query_tokens
query_found facts word left query new e =
    worded word (codes "get") _ _ left query new (QueryFound word left query new) (λ is r. let f = (get_makes facts).found query left new r in rw (is, ← f.is) (f.has, ap (λ (t : List (List ℕ)). codes "get" ∷ t) f.tokens)) (λ e2.
    worded word (codes "keys") _ _ left query new (QueryFound word left query new) (λ is r. let f = (keys_makes facts).found query left new r in rw (is, ← f.is) (f.has, ap (λ (t : List (List ℕ)). codes "keys" ∷ t) f.tokens)) (λ e3.
    worded word (codes "count") _ _ left query new (QueryFound word left query new) (λ is r. count_found word left query new is r) (λ e4. absurd cc)
    (same_text word (codes "count")) refl e3) (same_text word (codes "keys")) refl e2) (same_text word (codes "get")) refl e

pub query_is : TextFacts → IsPart Anything IsQuery query_tokens query_reading
unfolding query_reading
query_is facts = record { again = λ query left ends has. query_again facts query left has; found = found } where
  found : (query : Query) (old new : List (List ℕ)) → query_reading old ≡ Ok (query, new) → Found IsQuery query_tokens (λ (q : Query). q) query old new
  found query [] new e = absurd cc
  found query (word ∷ left) new e =
      let f = query_found facts word left query new e in
      record { from = query; is = refl; has = f.0; tokens = f.1 }
