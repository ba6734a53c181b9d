-- Each word of the table, as an instance has it.
use Rattle.std.proofs.Common.{◌≡◌, ◌∙◌, ◌+◌, ◌-◌, ◌*◌, ◌<◌, ◌≤◌, ℕ, zero, suc, Bool, true, false, List, [], ◌∷◌, ◌++◌}
use Rattle.std.proofs.Common.{Some, None, length, refl, sym, ap, arith, if◌then◌else◌}
use Rattle.std.specs.Prelude.{slice_get}
use Rattle.std.specs.List.{find, flat_map}
use Rattle.std.specs.Option.{option_or}
use Rattle.std.proofs.lemmas.List.Elements.{All-contains}
use Rattle.std.proofs.lemmas.List.Folds.{find-append}
use Rattle.std.proofs.lemmas.Option.{same_Some, slice_get_within}
use Rattle.elf_records.specs.Fields.{bytes_of}
use Rattle.elf_records.specs.Laws.{length-bytes_of}
use Rattle.got_pairs.proofs.Equal.{start_among}
use Rattle.got_pairs.specs.declared.entry.Entry.{Entry}
use Rattle.got_pairs.specs.declared.entry.Entry.TheVariants.{One, Two}
use Rattle.got_pairs.specs.declared.need.Need.{Need}
use Rattle.got_pairs.specs.Entries.{entry_of, words}
use Rattle.got_pairs.specs.Needs.{same_need, size_of, start_from, start_of}
use Rattle.guest_arithmetic.specs.Values.{digit}
use Rattle.image_file.specs.declared.relocation.ImageRelocation.{ImageRelocation}
use Rattle.image_writer.specs.Tables.{finished}
use Rattle.link_core.proofs.Few.{table_fits}
use Rattle.link_core.proofs.LengthsRaw.{need_length}
use Rattle.link_core.proofs.Relatives.{are_fields, relatives_below}
use Rattle.link_core.proofs.RelativesApart.{width_of}
use Rattle.link_core.proofs.RelativesFields.{IsField}
use Rattle.link_core.specs.Bytes.{need_bytes}
use Rattle.link_core.specs.Dynamic.{got_relocations, image_relocations, need_relocations, relatives}
use Rattle.link_core.specs.Images.{contents, image_of}
use Rattle.link_needs.specs.Given.{FitsTable, IsGiven}
use Rattle.link_needs.specs.Linking.{Linking, block_offset}
use Rattle.link_needs.specs.Needs.{entries, got_start}
use Rattle.loaded_modules.specs.declared.instance.Instance.{Instance}
use Rattle.loaded_modules.specs.Images.{JobImages}
use Rattle.relocated_parts.proofs.Words.{digits}
use Rattle.relocated_parts.specs.Left.{byte_by, is_written_at, left_byte}
use Rattle.tls_relocs.specs.Elements.{slice_get-append, slice_get-append_behind}
use Rattle.whole_meaning.specs.Spots.{bias_of}
use Rattle.loaded_bytes.specs.Laws.{IsInstanceOf, images_of}
use Rattle.guest_operands.specs.declared.space.Access.TheVariants.{Read}
use Rattle.guest_operands.specs.Ranges.{byte_in}
use Rattle.thread_blocks.specs.JobLoads.{job_loads}
use Rattle.loaded_words.proofs.Entries.{Fits, IsRow, byte_left, row}
use Rattle.loaded_words.proofs.Names.{entry_fits}
use Rattle.loaded_words.proofs.Placed.{placed}
use Rattle.loaded_words.proofs.Rows.{row_found}
use Rattle.loaded_words.proofs.Table.{found}
use Rattle.loaded_words.proofs.Tests.{none_found}
use Rattle.relocated_parts.proofs.Fold.{written_here as written_from}
use Rattle.loaded_words.specs.Laws.{HasWord, IsPlaced, WordsAreLoaded}
use Rattle.loaded_words.specs.Words.{loaded_words}

-- ** which relocation writes in an entry

pub no_relative : (l : Linking) → IsGiven l → FitsTable l → (address : ℕ) → got_start l ≤ address
    → find (is_written_at address) (relatives l) ≡ None
no_relative l given limits address low =
    none_found (is_written_at address) (relatives l) (λ r has passes.
    let below = All-contains (λ (y : ImageRelocation). y.place + 8 ≤ got_start l) (relatives l) r
    (relatives_below l given limits) has in
    let is = All-contains (IsField l 0) (relatives l) r (are_fields l given) has in
    let wide = width_of r is.lies.kind_is in
    omega (arith, (written_from address r passes).1, below, wide, low))

-- where all entries begin so much later
shifted : (c from : ℕ) (ks : List Need) (need : Need) (at : ℕ) → start_from from ks need ≡ Some at
    → start_from (c + from) ks need ≡ Some (c + at)
shifted c from [] need at e = cc
shifted c from (k ∷ ks) need at e = of_test (same_need need k) e (shifted c (from + size_of k) ks need at)
  where
    of_test : (t : Bool) → (if t then Some from else start_from (from + size_of k) ks need) ≡ Some at
        → (start_from (from + size_of k) ks need ≡ Some at
        → start_from (c + (from + size_of k)) ks need ≡ Some (c + at))
        → (if t then Some (c + from) else start_from (c + from + size_of k) ks need) ≡ Some (c + at)
    of_test true e rest = ap (λ n. Some (c + n)) (same_Some from at e)
    of_test false e rest =
        let order : c + from + size_of k ≡ c + (from + size_of k) = omega arith in
        ap (λ n. start_from n ks need) order ∙ rest e

module _ (l : Linking) (given : IsGiven l) (limits : FitsTable l) (need : Need) (at : ℕ)
    (starts : start_of (entries l) need ≡ Some at) (address : ℕ) (low : got_start l + at ≤ address)
    (high : address < got_start l + at + size_of need) where
  pub only_own : find (is_written_at address) (image_of l).relocations
      ≡ find (is_written_at address) (need_relocations l (need, got_start l + at))
  unfolding image_of finished contents image_relocations got_relocations
  only_own =
      let first : got_start l + 0 ≡ got_start l = omega arith in
      let begins : start_from (got_start l) (entries l) need ≡ Some (got_start l + at) =
      ap (λ n. start_from n (entries l) need) (sym first) ∙ shifted (got_start l) 0 (entries l) need at starts in
      find-append (is_written_at address) (relatives l) (got_relocations l)
      ∙ ap (λ o. option_or o (find (is_written_at address) (got_relocations l)))
      (no_relative l given limits address (omega (arith, low)))
      ∙ (row_found l address need (got_start l + at) low high (got_start l) (entries l) begins).1

-- ** the words of an entry in its row

pub record IsWord (m : JobImages) (l : Linking) (x : Instance) (at : ℕ) (e : Entry) (k word i : ℕ) : Type 0 where
  pub number : ℕ
  pub filed : slice_get (flat_map (λ w. bytes_of 8 w.number) (words e)) (8 * k + i) ≡ Some (digit number i)
  pub left : byte_left m l x at e (at + 8 * k) number i ≡ digit word i

module _ (m : JobImages) (l : Linking) (x : Instance) (at i : ℕ) (below : i < 8) where
  start : 0 + i ≡ i
  start = omega arith

  first_of : (n : ℕ) (more : List ℕ) → slice_get (bytes_of 8 n ++ more) i ≡ Some (digit n i)
  first_of n more =
      let long = length-bytes_of 8 n in
      slice_get-append (bytes_of 8 n) more i (omega (arith, long, below)) ∙ digits n i below

  second_of : (n : ℕ) (more : List ℕ) → slice_get (bytes_of 8 n ++ more) (8 + i) ≡ slice_get more i
  second_of n more =
      let long = length-bytes_of 8 n in
      let index : 8 + i - length (bytes_of 8 n) ≡ i = omega (arith, long) in
      slice_get-append_behind (bytes_of 8 n) more (8 + i) (omega (arith, long)) ∙ ap (slice_get more) index

  at_first : (e : Entry) (number word : ℕ) → byte_left m l x at e at number i ≡ digit word i
      → byte_left m l x at e (at + 8 * 0) number i ≡ digit word i
  at_first e number word h =
      let same : at + 8 * 0 ≡ at = omega arith in ap (λ a. byte_left m l x at e a number i) same ∙ h

  at_second : (e : Entry) (number word : ℕ) → byte_left m l x at e (at + 8) number i ≡ digit word i
      → byte_left m l x at e (at + 8 * 1) number i ≡ digit word i
  at_second e number word h =
      let same : at + 8 * 1 ≡ at + 8 = omega arith in ap (λ a. byte_left m l x at e a number i) same ∙ h

  pub word_is : (e : Entry) (ws : List ℕ) → IsRow m l x at e ws → (k word : ℕ) → slice_get ws k ≡ Some word
      → IsWord m l x at e k word i
  word_is (One v) (w ∷ []) own zero word is =
      let same : w ≡ word = same_Some w word is in
      record {
        number = v.number;
        filed = ap (slice_get (bytes_of 8 v.number ++ [])) start ∙ first_of v.number [];
        left = at_first (One v) v.number word (own i below ∙ ap (λ n. digit n i) same);
      }
  word_is (One v) (w ∷ []) own (suc k) word is = absurd (cc)
  word_is (Two v u) (w ∷ z ∷ []) own zero word is =
      let same : w ≡ word = same_Some w word is in
      record {
        number = v.number;
        filed = ap (slice_get (bytes_of 8 v.number ++ (bytes_of 8 u.number ++ []))) start
            ∙ first_of v.number (bytes_of 8 u.number ++ []);
        left = at_first (Two v u) v.number word (own.0 i below ∙ ap (λ n. digit n i) same);
      }
  word_is (Two v u) (w ∷ z ∷ []) own (suc zero) word is =
      let same : z ≡ word = same_Some z word is in
      record {
        number = u.number;
        filed = second_of v.number (bytes_of 8 u.number ++ []) ∙ first_of u.number [];
        left = at_second (Two v u) u.number word (own.1 i below ∙ ap (λ n. digit n i) same);
      }
  word_is (Two v u) (w ∷ z ∷ []) own (suc (suc k)) word is = absurd (cc)
  word_is (One v) [] own k word is = absurd own
  word_is (One v) (w ∷ z ∷ ws) own k word is = absurd own
  word_is (Two v u) [] own k word is = absurd own
  word_is (Two v u) (w ∷ []) own k word is = absurd own
  word_is (Two v u) (w ∷ z ∷ y ∷ ws) own k word is = absurd own

-- ** as an instance has them

word_loaded : (ls : List Linking) (l : Linking) (x : Instance) (need : Need) (at k word : ℕ) → IsInstanceOf ls l x
    → IsPlaced ls l x → Fits l l.kind need → start_of (entries l) need ≡ Some at
    → slice_get (loaded_words (images_of ls) l.kind x need) k ≡ Some word
    → HasWord ((job_loads (images_of ls)).fixed x) (got_start l + at + 8 * k + bias_of l.kind x.number) word
unfolding left_byte
word_loaded ls l x need at k word is placed fits starts has i below =
    let m = images_of ls in
    let limits = table_fits l is.given is.links.sound.limits in
    let e = entry_of l.kind (block_offset l) need in
    let w = word_is m l x (got_start l + at) i below e (loaded_words m l.kind x need)
    (row m l x ls placed l.kind refl need fits (got_start l + at)) k word has in
    let lies = slice_get_within (need_bytes l need) (8 * k + i) (digit w.number i) w.filed in
    let size = need_length l need in
    let inside : 8 * k + i < size_of need = omega (arith, lies, size) in
    let place : got_start l + at + 8 * k + bias_of l.kind x.number + i
    ≡ got_start l + at + (8 * k + i) + bias_of l.kind x.number =
    omega arith in
    let address : got_start l + at + (8 * k + i) ≡ got_start l + at + 8 * k + i = omega arith in
    ap (byte_in Read ((job_loads m).fixed x)) place
    ∙ found ls l x is need at starts (8 * k + i) (digit w.number i) inside w.filed
    ∙ ap (λ o. Some (byte_by m (image_of l) x (got_start l + at + (8 * k + i)) (digit w.number i) o))
    (only_own l is.given limits need at starts (got_start l + at + (8 * k + i)) (omega arith) (omega (arith, inside)))
    ∙ ap (λ a. Some (byte_by m (image_of l) x a (digit w.number i)
    (find (is_written_at a) (need_relocations l (need, got_start l + at))))) address
    ∙ ap Some w.left

-- the law
pub words_loaded : WordsAreLoaded
words_loaded ls l x history need at k word known is starts has =
    word_loaded ls l x need at k word is (placed ls l x history known is.image)
    (entry_fits l is.given is.links need (start_among need 0 at (entries l) starts)) starts has
