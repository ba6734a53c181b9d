use Rattle.std.proofs.Common.{◌≡◌, ◌∙◌, ◌<◌, ◌++◌, ℕ, Some, ap, arith, drop, get_or, length, subst, sym, take}
use Rattle.std.specs.Prelude.{replicate, slice_get, slice_index_or}
use Rattle.std.specs.List.Sorted.{IsNonDecreasingBy}
use Rattle.std.proofs.lemmas.List.{length-replicate}
use Rattle.std.proofs.lemmas.Option.{slice_get-get_or}
use Rattle.elf_object.specs.Lent.{relocations, section_size}
use Rattle.link_needs.specs.Linking.{object, sites_at}
use Rattle.meant_images.specs.CodeCells.{field_cell, no_cell, site_cell}
use Rattle.sequence_forms.specs.declared.places.Site.{Site}
use Rattle.meant_images.proofs.Celled.{in_range, section_is, sites_rise, sites_short, written}
use Rattle.meant_images.proofs.painting.Painter.section_cells.Goals as goal

pub paint_own_sites-requires-clause-rising : goal.paint_own_sites-requires-clause-rising
paint_own_sites-requires-clause-rising c =
    subst (IsNonDecreasingBy (λ (site : Site). site.section)) (sym c.own_sites.ensures.sites)
    (sites_rise _ _ c.own_sites.ensures.all)

pub paint_own_sites-requires-clause-narrow : goal.paint_own_sites-requires-clause-narrow
paint_own_sites-requires-clause-narrow c = sites_short _ _ c.own_sites.ensures.usable

pub paint_own_sites-requires-clause-few : goal.paint_own_sites-requires-clause-few
paint_own_sites-requires-clause-few c =
    let room = c.args.self.now.have_room in
    let count = room.count in
    let at = slice_get-get_or c.args.self.now.objects.now c.args.object c.index-self-object.result
    (omega (arith, count, c.requires.object_there)) in
    let few = room.sites c.args.object _ at in
    rw c.own_sites.ensures.sites few

pub returns : goal.returns
returns c =
    let l = c.args.self.now.inputs.now in
    let o = c.args.object in
    let s = c.args.section in
    let kept = c.args.self.now.objects.now in
    let n = c.size_of-size.result in
    let it = slice_index_or kept o c.index-self-object.result in
    let blank = c.in_ok-cells.cells.items in
    let painted = c.paint_fields.new.cells in
    let full = c.paint_own_sites.new.cells in
    let room = c.args.self.now.have_room in
    let count = room.count in
    let at : slice_get kept o ≡ Some it =
    slice_get-get_or kept o c.index-self-object.result (omega (arith, count, c.requires.object_there)) in
    let all = room.all o it at in
    let blank_is : blank ≡ replicate n no_cell = c.in_ok-cells.ensures.items_if_clones_equal (λ y e. e) in
    let long : length blank ≡ n = ap length blank_is ∙ length-replicate n no_cell in
    let first_long : length c.deref_mut.result.now ≡ n = ap length c.deref_mut.ensures.value ∙ long in
    let len : c.in_ok-cells.cells.len ≡ n = c.in_ok-cells.ensures.len in
    let painted_long : length painted ≡ n = c.paint_fields.auto.cells ∙ first_long in
    let middle : take c.in_ok-cells.cells.len (painted ++ drop (length painted) blank) ≡ painted =
    written painted blank c.in_ok-cells.cells.len (painted_long ∙ sym len) (long ∙ sym len) in
    let second : c.deref_mut-2.result.now ≡ painted = c.deref_mut-2.ensures.value ∙ middle in
    let second_long : length c.deref_mut-2.result.now ≡ n = ap length second ∙ painted_long in
    let full_long : length full ≡ n = c.paint_own_sites.auto.cells ∙ second_long in
    let first : c.index.result.now ≡ slice_index_or it.fields.items s 0 =
    c.index.ensures ∙ in_range it.fields.items s c.index.result.now 0 (omega (arith, all, c.requires.section_there)) in
    let rs : c.deref.result.now ≡ relocations (object l o) s =
    c.deref.ensures.value ∙ c.in_ok-relocations.ensures.relocations ∙ ap (λ b. relocations b s) c.object-own.ensures in
    let size : n ≡ section_size (object l o) s = c.size_of-size.ensures.size
    ∙ ap (λ b. section_size b s) c.object-own.ensures in
    let fields : (k : ℕ) → k < n → get_or painted k no_cell
    ≡ field_cell (slice_index_or it.fields.items s 0) (relocations (object l o) s) k (get_or blank k no_cell) =
    λ k below.
    let one : get_or painted k no_cell
    ≡ field_cell c.index.result.now c.deref.result.now k (get_or c.deref_mut.result.now k no_cell) =
    c.paint_fields.ensures k (omega (arith, below, first_long)) in
    one ∙ ap (λ m. field_cell m c.deref.result.now k (get_or c.deref_mut.result.now k no_cell)) first
    ∙ ap (λ xs. field_cell (slice_index_or it.fields.items s 0) xs k (get_or c.deref_mut.result.now k no_cell)) rs
    ∙ ap (λ xs. field_cell (slice_index_or it.fields.items s 0) (relocations (object l o) s) k
    (get_or xs k no_cell)) c.deref_mut.ensures.value in
    let sites : (k : ℕ) → k < n
    → get_or full k no_cell ≡ site_cell it.sites (sites_at l o) s k (get_or painted k no_cell) = λ k below.
    let one : get_or full k no_cell
    ≡ site_cell it.sites c.own_sites.result.now s k (get_or c.deref_mut-2.result.now k no_cell) =
    c.paint_own_sites.ensures k (omega (arith, below, second_long)) in
    one ∙ ap (λ xs. site_cell it.sites xs s k (get_or c.deref_mut-2.result.now k no_cell)) c.own_sites.ensures.sites
    ∙ ap (λ xs. site_cell it.sites (sites_at l o) s k (get_or xs k no_cell)) second in
    written full _ c.in_ok-cells.cells.len (full_long ∙ sym len) (ap length middle ∙ painted_long ∙ sym len)
    ∙ section_is kept l o s n it blank painted full at size blank_is full_long fields sites
