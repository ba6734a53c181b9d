-- The laws of the two tables, row by row.
use Rattle.std.proofs.Common.{◌≡◌, ◌+◌, ◌≤◌, ℕ, Bool, true, false, List, ◌++◌, length, take, drop, subst, refl, ap, sym}
use Rattle.std.proofs.Common.{◌∙◌, arith}
use Rattle.std.specs.Prelude.{◌≢◌, ◌%◌, ◌==◌, Some, if◌then◌else◌}
use Rattle.elf_records.specs.Laws.{length-splice, take-splice, drop-splice, part_at-splice}
use Rattle.elf_records.specs.Fields.{splice, part_at}
use Rattle.link_faults.specs.declared.image_kind.ImageKind.{ImageKind}
use Rattle.link_faults.specs.declared.image_kind.ImageKind.TheVariants.{Exe, Pie, Start, Late}
use Rattle.link_faults.specs.declared.binding.Binding.{Binding}
use Rattle.link_faults.specs.declared.binding.Binding.TheVariants.{Here, Startup, Runtime}
use Rattle.sequence_forms.specs.declared.forms.Form.{Form}
use Rattle.sequence_forms.specs.declared.forms.Form.TheVariants.{Gd, Ld, IeMov, IeAdd, GdInd, LdInd, DescLea, DescCall}
use Rattle.sequence_forms.specs.declared.places.Site.{Site}
use Rattle.sequence_forms.specs.Forms.{row}
use Rattle.relax_sites.specs.declared.choices.Choice.{Choice}
use Rattle.relax_sites.specs.declared.choices.Choice.TheVariants.{Keep, GdLe, GdIe, LdLe, IeLe, DescLe, DescIe}
use Rattle.relax_sites.specs.declared.rows.NewField.{NewField}
use Rattle.relax_sites.specs.Choices.{choice_of, program_choice}
use Rattle.relax_sites.specs.ChoiceLaws.{IsChoiceOf}
use Rattle.relax_sites.specs.Rows.{form_length, new_bytes, new_field, field_of_zeros}
use Rattle.relax_sites.specs.Rewriting.{rewritten}
use Rattle.relax_sites.proofs.Parts.{part_at-splice_inside}
use Rattle.relax_sites.specs.Laws.{EndsInItsField, IsRewrittenIn, StaysInItsSite}

kept : (form : Form) → IsChoiceOf form Keep
kept Gd = tt
kept Ld = tt
kept IeMov = tt
kept IeAdd = tt
kept GdInd = tt
kept LdInd = tt
kept DescLea = tt
kept DescCall = tt

own_in_program : (form : Form) (binding : Binding) → IsChoiceOf form (program_choice form binding)
own_in_program Gd (Here x) = tt
own_in_program Gd (Startup x) = tt
own_in_program Gd Runtime = tt
own_in_program Ld binding = tt
own_in_program IeMov (Here x) = tt
own_in_program IeMov (Startup x) = tt
own_in_program IeMov Runtime = tt
own_in_program IeAdd (Here x) = tt
own_in_program IeAdd (Startup x) = tt
own_in_program IeAdd Runtime = tt
own_in_program GdInd (Here x) = tt
own_in_program GdInd (Startup x) = tt
own_in_program GdInd Runtime = tt
own_in_program LdInd binding = tt
own_in_program DescLea (Here x) = tt
own_in_program DescLea (Startup x) = tt
own_in_program DescLea Runtime = tt
own_in_program DescCall (Here x) = tt
own_in_program DescCall (Startup x) = tt
own_in_program DescCall Runtime = tt

pub own_choice : (form : Form) (binding : Binding) (kind : ImageKind) (relax : Bool)
    → IsChoiceOf form (choice_of form binding kind relax)
own_choice form binding Exe false = kept form
own_choice form binding Pie false = kept form
own_choice form binding Start false = kept form
own_choice form binding Late false = kept form
own_choice form binding Exe true = own_in_program form binding
own_choice form binding Pie true = own_in_program form binding
own_choice form binding Start true = kept form
own_choice form binding Late true = kept form

-- a list chosen by a test has the length that both have
either_length : (b : Bool) (xs ys : List ℕ) (n : ℕ) → length xs ≡ n → length ys ≡ n
    → length (if b then xs else ys) ≡ n
either_length true xs ys n e f = e
either_length false xs ys n e f = f

pub row_length : (form : Form) (choice : Choice) (reg : ℕ) → IsChoiceOf form choice → choice ≢ Keep
    → length (new_bytes form choice reg) ≡ form_length form
unfolding row
row_length Gd GdLe reg own changes = refl
row_length Gd GdIe reg own changes = refl
row_length GdInd GdLe reg own changes = refl
row_length GdInd GdIe reg own changes = refl
row_length Ld LdLe reg own changes = refl
row_length LdInd LdLe reg own changes = refl
row_length IeMov IeLe reg own changes = refl
row_length IeAdd IeLe reg own changes = either_length (reg % 8 == 4) _ _ 7 refl refl
row_length DescLea DescLe reg own changes = refl
row_length DescLea DescIe reg own changes = refl
row_length DescCall DescLe reg own changes = refl
row_length DescCall DescIe reg own changes = refl
row_length form Keep reg own changes = absurd (changes refl)
row_length form choice reg own changes = absurd own

either_ends : (b : Bool) (xs ys : List ℕ) (n : ℕ) (end : List ℕ) → xs ≡ take n xs ++ end → ys ≡ take n ys ++ end
    → (if b then xs else ys) ≡ take n (if b then xs else ys) ++ end
either_ends true xs ys n end e f = e
either_ends false xs ys n end e f = f

same_end : (form : Form) (choice : Choice) (reg : ℕ) (one field : NewField) → Some one ≡ Some field
    → EndsInItsField form choice reg one → EndsInItsField form choice reg field
same_end form choice reg one field same ends =
    let e : one ≡ field = cc in
    let P : NewField → Type 0 = λ f. EndsInItsField form choice reg f in
    subst P e ends

pub field_end : (form : Form) (choice : Choice) (reg : ℕ) (field : NewField)
    → new_field form choice ≡ Some field → EndsInItsField form choice reg field
unfolding row
field_end Gd GdLe reg field is = same_end Gd GdLe reg _ field is (record { end = refl; zero = refl })
field_end Gd GdIe reg field is = same_end Gd GdIe reg _ field is (record { end = refl; zero = refl })
field_end GdInd GdLe reg field is = same_end GdInd GdLe reg _ field is (record { end = refl; zero = refl })
field_end GdInd GdIe reg field is = same_end GdInd GdIe reg _ field is (record { end = refl; zero = refl })
field_end IeMov IeLe reg field is = same_end IeMov IeLe reg _ field is (record { end = refl; zero = refl })
field_end IeAdd IeLe reg field is = same_end IeAdd IeLe reg _ field is
    (record { end = refl; zero = either_ends (reg % 8 == 4) _ _ 3 field_of_zeros refl refl })
field_end DescLea DescLe reg field is = same_end DescLea DescLe reg _ field is (record { end = refl; zero = refl })
field_end DescLea DescIe reg field is = same_end DescLea DescIe reg _ field is (record { end = refl; zero = refl })
field_end form choice reg field is = absurd cc

-- where a site is not kept, its row is spliced in
spliced : (site : Site) (choice : Choice) (bytes : List ℕ) → choice ≢ Keep
    → rewritten site choice bytes ≡ splice site.start (new_bytes site.form choice site.reg) bytes
spliced site Keep bytes changes = absurd (changes refl)
spliced site GdLe bytes changes = refl
spliced site GdIe bytes changes = refl
spliced site LdLe bytes changes = refl
spliced site IeLe bytes changes = refl
spliced site DescLe bytes changes = refl
spliced site DescIe bytes changes = refl

pub stays : (bytes : List ℕ) (site : Site) (choice : Choice) → IsRewrittenIn bytes site choice
    → StaysInItsSite bytes site choice
stays bytes site choice is =
    let new = new_bytes site.form choice site.reg in
    let as_spliced = spliced site choice bytes is.changes in
    let size : length new ≡ site.len = row_length site.form choice site.reg is.own is.changes ∙ sym is.whole in
    let starts : site.start ≤ length bytes = omega (arith, is.inside) in
    let fits : site.start + length new ≤ length bytes = omega (arith, is.inside, size) in
    let ends : site.start + length new ≤ site.start + site.len = omega (arith, size) in
    record {
      length-is = ap length as_spliced ∙ length-splice site.start new bytes fits;
      before = ap (take site.start) as_spliced ∙ take-splice site.start site.start new bytes (omega arith) starts;
      row-is = ap (part_at site.len site.start) as_spliced
          ∙ ap (λ n. part_at n site.start (splice site.start new bytes)) (sym size)
          ∙ part_at-splice site.start new bytes starts;
      behind = ap (drop (site.start + site.len)) as_spliced
          ∙ drop-splice site.start (site.start + site.len) new bytes ends starts;
    }

pub field_stands : (bytes four : List ℕ) (site : Site) (choice : Choice) (field : NewField)
    → IsRewrittenIn bytes site choice → new_field site.form choice ≡ Some field → length four ≡ 4
    → part_at site.len site.start (splice (site.start + field.at) four (rewritten site choice bytes))
    ≡ splice field.at four (new_bytes site.form choice site.reg)
field_stands bytes four site choice field is field-is four-size =
    let kept = stays bytes site choice is in
    let end = (field_end site.form choice site.reg field field-is).end in
    let room : field.at + length four ≤ site.len = omega (arith, end, four-size, is.whole) in
    let inside : site.start + site.len ≤ length (rewritten site choice bytes) =
    omega (arith, is.inside, kept.length-is) in
    part_at-splice_inside site.len field.at site.start four (rewritten site choice bytes) room inside
    ∙ ap (splice field.at four) kept.row-is
