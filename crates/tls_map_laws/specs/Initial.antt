-- The initial image of thread-local storage, as it is loaded for an instance (gABI, "Program Header": PT_TLS): the
-- bytes of its objects' sections, by the table of relocations alone. No file that a linker writes is read.
use Rattle.std.specs.Prelude.{ℕ, true, List, [], map}
use Rattle.job_meaning.specs.declared.values.Byte.{Byte}
use Rattle.job_meaning.specs.declared.values.Byte.TheVariants.{Value}
use Rattle.link_needs.specs.Linking.{Linking}
use Rattle.loaded_modules.specs.declared.instance.Instance.{Instance}
use Rattle.object_faults.specs.declared.class.SectionClass.TheVariants.{Tls}
use Rattle.whole_meaning.specs.Bytes.{class_bytes}
use Rattle.whole_meaning.specs.Loads.{of_image}

-- in an instance of one of these links
abbrev pub initial_image : List Linking → Instance → List ℕ
initial_image ls x = of_image ls [] (λ l bias. class_bytes l bias (Tls true)) x

-- and as values of the meaning
abbrev pub initial_meant : List Linking → Instance → List Byte
initial_meant ls x = map Value (initial_image ls x)
