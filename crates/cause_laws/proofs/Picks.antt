-- The first cause of several values that are used: of lists of words and of flags.
use Rattle.std.proofs.Common.{◌≡◌, Bool, true, false, List, [], ◌++◌, Option, Some, None, refl}
use Rattle.std.specs.Prelude.{◌||◌}
use Rattle.std.specs.List.{list_any}
use Rattle.std.proofs.lemmas.List.Folds.{list_any-append}
use Rattle.guest_arithmetic.specs.declared.cause.Cause.{Cause}
use Rattle.guest_arithmetic.specs.declared.cause.Cause.TheVariants as cause
use Rattle.guest_arithmetic.specs.Cause.{first_cause}
use Rattle.job_meaning.specs.declared.values.Flag.{Flag}
use Rattle.job_meaning.specs.declared.values.Word.{Word}
use Rattle.cause_laws.specs.Rows.{is_base, is_descriptor, is_undefined, is_undefined_flag}

-- the first of the four causes of which there is one
abbrev pub pick4 : Bool → Bool → Bool → Bool → Option Cause
pick4 true f b d = Some cause.Undefined
pick4 false true b d = Some cause.Flags
pick4 false false true d = Some cause.Base
pick4 false false false true = Some cause.Descriptor
pick4 false false false false = None

abbrev pub earlier : Option Cause → Option Cause → Option Cause
earlier None o = o
earlier (Some a) None = Some a
earlier (Some a) (Some b) = Some (first_cause a b)

pub earlier-none : (o : Option Cause) → earlier o None ≡ o
earlier-none None = refl
earlier-none (Some a) = refl

four : (u f b d u' f' b' d' : Bool)
    → pick4 (u || u') (f || f') (b || b') (d || d') ≡ earlier (pick4 u f b d) (pick4 u' f' b' d')
four true f b d true f' b' d' = refl
four true f b d false true b' d' = refl
four true f b d false false true d' = refl
four true f b d false false false true = refl
four true f b d false false false false = refl
four false true b d true f' b' d' = refl
four false true b d false true b' d' = refl
four false true b d false false true d' = refl
four false true b d false false false true = refl
four false true b d false false false false = refl
four false false true d true f' b' d' = refl
four false false true d false true b' d' = refl
four false false true d false false true d' = refl
four false false true d false false false true = refl
four false false true d false false false false = refl
four false false false true true f' b' d' = refl
four false false false true false true b' d' = refl
four false false false true false false true d' = refl
four false false false true false false false true = refl
four false false false true false false false false = refl
four false false false false u' f' b' d' = refl

abbrev pub pick : List Word → List Flag → Option Cause
pick ws fs = pick4 (list_any is_undefined ws) (list_any is_undefined_flag fs) (list_any is_base ws)
    (list_any is_descriptor ws)

-- of words
abbrev pub word_cause : List Word → Option Cause
word_cause ws = pick ws []

pub pick-append : (ws ws' : List Word) → word_cause (ws ++ ws') ≡ earlier (word_cause ws) (word_cause ws')
pick-append ws ws' =
    rw (list_any-append is_undefined ws ws', list_any-append is_base ws ws', list_any-append is_descriptor ws ws')
    (four (list_any is_undefined ws) false (list_any is_base ws) (list_any is_descriptor ws)
    (list_any is_undefined ws') false (list_any is_base ws') (list_any is_descriptor ws'))
