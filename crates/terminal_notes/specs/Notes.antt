-- The lines for a person at a terminal.
use Rattle.std.specs.Prelude.{◌≡◌, ℕ, List, [], ◌∷◌, ◌++◌, codes}
use Rattle.command_replies.specs.Says.{fault_text}
use Rattle.object_rules.specs.declared.fault.FaultKind.{FaultKind}
use Rattle.terminal_notes.specs.Names.{part_of, section_name, symbol_name}
use Rattle.terminal_notes.specs.Printable.{printable}

-- a file, and why the host failed to read or write it
abbrev pub file_note : List ℕ → List ℕ → List ℕ
file_note name reason = codes "tlsld: " ++ printable name ++ codes ": " ++ reason ++ codes "\n"

-- a symbol, if it has a name
abbrev pub symbol_words : List ℕ → List ℕ
symbol_words [] = []
symbol_words (c ∷ cs) = codes ", symbol " ++ printable (c ∷ cs)

-- an object, a section and a symbol by their names
unfoldable pub place_note : List ℕ → List ℕ → List ℕ → List ℕ
place_note name section symbol =
    codes "tlsld: " ++ printable name ++ codes ": section " ++ printable section ++ symbol_words symbol ++ codes "\n"

-- the same for a fault at section s and entry n of an object with these bytes
abbrev pub object_note : List ℕ → List ℕ → ℕ → ℕ → FaultKind → List ℕ
object_note name b s n kind = place_note name (section_name b s) (symbol_name (part_of kind) b s n)

-- the commands
abbrev pub commands_note : List ℕ
commands_note =
    codes "tlsld: commands: run JOB, race JOB, link JOB IMAGE OUT, sites JOB IMAGE, show FILE, check JOB, gen N; "
    ++ codes "run, race and link take --no-relax\n"

-- the note of the object that a line refuses, over the bytes that were read for the object's name; Read: which bytes
-- those are
pub record IsNote (Read : List ℕ → List ℕ → Type 0) (line note : List ℕ) : Type 0 where
  pub name : List ℕ
  pub section : ℕ
  pub entry : ℕ
  pub kind : FaultKind
  pub bytes : List ℕ
  pub read : Read name bytes
  pub line_is : line ≡ fault_text name section entry kind
  pub note_is : note ≡ object_note name bytes section entry kind
