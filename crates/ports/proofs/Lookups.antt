-- A map from names to bytes in memory and the files that it stands for answer alike.
use Rattle.std.proofs.Common.{◌≡◌, ℕ, List, [], ◌∷◌, Bool, true, false, cond, Option, Some, String, Vec, refl, sym, ap}
use Rattle.std.proofs.Common.{◌∙◌}
use Rattle.std.specs.Prelude.{map}
use Rattle.std.specs.Option.{option_map}
use Rattle.std.specs.Ordering.{nat_cmp, eq_by_cmp, is_eq}
use Rattle.std.specs.Cmp.{eq_by_cmp_equiv}
use Rattle.std.specs.Cmp.Lexicographic.{slice_cmp}
use Rattle.std.specs.String.{string_bytes, string_cmp}
use Rattle.std.specs.Str.{bytes_eq}
use Rattle.std.specs.BTreeMap as tree
use Rattle.std.specs.BTreeMap.{BTreeMap, get_by_text, is_at}
use Rattle.std.specs.Map.{lookup}
use Rattle.std.specs.FinMap as fin
use Rattle.std.specs.FinMap.{find, same_map, get-insert, get-from_entries, slice_cmp-IsAntisymmetric}
use Rattle.std.specs.FinMap.{nat_cmp-IsAntisymmetric}
use Rattle.std.proofs.lemmas.Cmp.{nat_list_cmp_total}
use Rattle.std.proofs.lemmas.Map.Text.{btree_map_updates_text, is_eq-slice_cmp}
use Rattle.ports.specs.Files.{file_at}
use Rattle.ports.specs.Entries.{files_of}

-- the first entry under a name holds the file
find-entries : {A B : Type 0} (es : List (String A × Vec ℕ B)) (name : List ℕ)
    → find (slice_cmp nat_cmp) name (map (λ e. (string_bytes e.0, e.1.items)) es)
    ≡ option_map (λ (v : Vec ℕ B). v.items) (lookup (is_at (λ k. slice_cmp nat_cmp name (string_bytes k))) es)
find-entries [] name = refl
find-entries {A} {B} (e ∷ es) name =
    elim (is_eq (slice_cmp nat_cmp name (string_bytes e.0))) as (λ b.
    cond b (Some e.1.items) (find (slice_cmp nat_cmp) name (map (λ e. (string_bytes e.0, e.1.items)) es))
    ≡ option_map (λ (v : Vec ℕ B). v.items)
    (cond b (Some e.1) (lookup (is_at (λ k. slice_cmp nat_cmp name (string_bytes k))) es)))
    [ true ↦ refl | false ↦ find-entries es name ]

pub file_at-files_of : {A B : Type 0} (m : BTreeMap (String A) (Vec ℕ B)) (name : List ℕ)
    → file_at (files_of m.entries) name ≡ option_map (λ (v : Vec ℕ B). v.items) (get_by_text m name)
file_at-files_of m name = get-from_entries nat_list_cmp_total _ name ∙ find-entries m.entries name

updated : {X Y : Type 0} (f : X → Y) (x : X) (o : Option X) (b : Bool)
    → option_map f (cond b (Some x) o) ≡ cond b (Some (f x)) (option_map f o)
updated f x o true = refl
updated f x o false = refl

-- a map that was updated at a name stands for the files with other bytes under that name
pub files_of-update : {A B : Type 0} (m n : BTreeMap (String A) (Vec ℕ B)) (name : List ℕ) (v : Vec ℕ B)
    → tree.UpdatesBy string_cmp (λ k. slice_cmp nat_cmp name (string_bytes k)) m n (Some v)
    → files_of n.entries ≡ fin.insert (files_of m.entries) name v.items
files_of-update {A} {B} m n name v updates =
    same_map nat_list_cmp_total (slice_cmp-IsAntisymmetric nat_cmp-IsAntisymmetric) _ _ (λ q.
    file_at-files_of n q ∙ ap (option_map (λ (v : Vec ℕ B). v.items))
    (btree_map_updates_text name m n (Some v) updates q)
    ∙ updated (λ (v : Vec ℕ B). v.items) v (get_by_text m q) (bytes_eq name q)
    ∙ ap (λ b. cond b (Some v.items) (option_map (λ (v : Vec ℕ B). v.items) (get_by_text m q)))
    (sym (is_eq-slice_cmp name q) ∙ (eq_by_cmp_equiv nat_list_cmp_total).symm name q)
    ∙ ap (cond (eq_by_cmp (slice_cmp nat_cmp) q name) (Some v.items)) (sym (file_at-files_of m q))
    ∙ sym (get-insert nat_list_cmp_total (files_of m.entries) name v.items q))
