-- Which line sets a label, by the table of labels.
use Rattle.std.specs.Prelude.{◌≡◌, cond, List, [], ◌∷◌, ◌++◌, ℕ, ◌+◌, length, get_or, set, take, replicate, Option, Some, None, slice_get}
use Rattle.std.proofs.Math.Option as M
use Rattle.std.proofs.Math.Option.{some, none}
use Rattle.expression.specs.declared.labels.Entry.{Entry}
use Rattle.expression.specs.declared.labels.Lines.{Lines}
use Rattle.expression.specs.declared.labels.Labels.{Labels}
use Rattle.expression.specs.Reader.{same}
use Rattle.expression.specs.Table.{setting, hash_from}

-- The line of an entry, if it has the name.
abbrev pub line_of : Entry → List ℕ → M.Option ℕ
line_of e n = cond (same e.name.now n) (some e.line) none

unfoldable pub or_else : M.Option ℕ → M.Option ℕ → M.Option ℕ
or_else none o = o
or_else (some k) o = some k

-- The line of the first entry that has the name.
unfoldable pub among : List Entry → List ℕ → M.Option ℕ
among [] n = none
among (e ∷ es) n = or_else (line_of e n) (among es n)

abbrev pub line_at : Option Entry → List ℕ → M.Option ℕ
line_at (Some e) n = line_of e n
line_at None n = none

abbrev pub held : Labels → List Entry
held T = take T.count T.entries

-- The entry that was last put under the number of a name: most often the right one.
abbrev pub guess : Labels → List ℕ → ℕ
guess T n = get_or T.guesses (hash_from 0 n) 0

abbrev pub guessed : Labels → List ℕ → M.Option ℕ
guessed T n = line_at (slice_get (held T) (guess T n)) n

unfoldable pub kept : Labels → List ℕ → M.Option ℕ
kept T n = or_else (guessed T n) (among (held T) n)

-- The line that sets a label, by the table.
unfoldable pub lookup : Labels → List ℕ → M.Option ℕ
lookup T n = or_else (kept T n) (setting T.beyond.text.now T.beyond.number n)

-- ---- what changes a table

pub record IsEmpty (T : Labels) : Type 0 where
  pub none_held : held T ≡ []
  pub none_counted : T.count ≡ 0
  pub no_guesses : T.guesses ≡ replicate 1024 0
  pub nothing_beyond : T.beyond.text.now ≡ []
  pub from_line : T.beyond.number ≡ 0

pub record Pushed (S T : Labels) (name : List ℕ) (line : ℕ) : Type 0 where
  pub entry : Entry
  pub named : entry.name.now ≡ name
  pub at_line : entry.line ≡ line
  pub last : held T ≡ held S ++ entry ∷ []
  pub counted : T.count ≡ S.count + 1
  pub place : length (held S) ≡ S.count
  pub guesses : T.guesses ≡ set S.guesses (hash_from 0 name) S.count
  pub numbers : length S.guesses ≡ 1024
  pub beyond : T.beyond ≡ S.beyond

-- The first line that sets a label stays.
abbrev pub Inserted : M.Option ℕ → Labels → Labels → List ℕ → ℕ → Type 0
Inserted (some k) S T name line = T ≡ S
Inserted none S T name line = Pushed S T name line

pub record Left (S T : Labels) (rest : Lines) : Type 0 where
  pub entries : T.entries ≡ S.entries
  pub count : T.count ≡ S.count
  pub guesses : T.guesses ≡ S.guesses
  pub beyond : T.beyond ≡ rest
