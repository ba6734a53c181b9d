-- The command of words, as clap reads them.
use Rattle.std.proofs.Common.{◌≡◌, false, List, [], ◌∷◌, Option, None, Some, cond, refl, sym, ap, ◌∙◌, inl, inr}
use Rattle.std.proofs.Math.Dec.{eqb-suc-zero}
use Rattle.std.specs.Prelude.{◌==◌, length, unwrap_or}
use Rattle.std.specs.Borrow.{Bor}
use Rattle.clap.specs.Matches.{first_value}
use Rattle.clap.specs.declared.parser.matches.Found.{Found}
use Rattle.clap.proofs.WalkLemmas.{first_value-rows}
use Rattle.std.specs.Option.{option_map, option_and_then}
use Rattle.clap.specs.Walk.{Row, Text, first_of, rows_of}
use Rattle.clap.specs.Simple.{subcommand_of}
use Rattle.clap.specs.Kinds.{HasKind, IsAmong, Kinds}
use Rattle.clap.specs.Faults.{fault_of}
use Rattle.clap.specs.Values.{kind_of}
use Rattle.clap.specs.declared.error.Error.{Error}
use Rattle.clap.specs.declared.error.kind.ErrorKind.TheVariants as kind
use Rattle.command_line.specs.CommandSet.{tool_app}
use Rattle.command_line.specs.Words.{asked, command_of}

-- where clap answers an error that is not want of memory, the words give no command
pub refused_words : (words : List Text) (e : Error) → HasKind (fault_of tool_app words) e
    → (kind_of e ≡ kind.OutOfMemory → ⊥)
    → asked words ≡ None
unfolding asked
refused_words words e h other = elim h [
  | inl m ↦ absurd (other m)
  | inr among ↦
      ap (λ b. cond b (option_and_then command_of (subcommand_of tool_app words)) None)
      (some (fault_of tool_app words) among)
]
  where
    some : (ks : Kinds) → IsAmong (kind_of e) ks → (length ks == 0) ≡ false
    some [] a = absurd a
    some (k ∷ ks) a = eqb-suc-zero (length ks)

-- the command of words without a fault is that of the subcommand that is found
pub asked_found : (words : List Text) (found : Option (Text × List Row)) → fault_of tool_app words ≡ []
    → found ≡ subcommand_of tool_app words
    → asked words ≡ option_and_then command_of found
unfolding asked
asked_found words found none is =
    ap (λ ks. cond (length ks == 0) (option_and_then command_of (subcommand_of tool_app words)) None) none
    ∙ ap (option_and_then command_of) (sym is)

-- the text that a caller reads of an argument, by its rows
pub text_read : (f : Found) (id : Text) (text : Option (Bor Text)) (other : Bor Text)
    → option_map (λ s. s.now) text ≡ first_value f id
    → (unwrap_or text other).now ≡ unwrap_or (first_of id (rows_of f)) other.now
text_read f id text other is = unwrapped text other ∙ ap (λ o. unwrap_or o other.now) (is ∙ first_value-rows f id)
  where
    unwrapped : (text : Option (Bor Text)) (other : Bor Text)
        → (unwrap_or text other).now ≡ unwrap_or (option_map (λ s. s.now) text) other.now
    unwrapped None other = refl
    unwrapped (Some t) other = refl
