-- What the relocations so far make of the part, and that the window shows it.
use Rattle.std.proofs.Common.{◌≡◌, length}
use Rattle.loaded_modules.specs.Words.{IsWindow}
use Rattle.image_file.specs.Spelled.{lent_part}
use Rattle.loaded_modules.proofs.Relocated.{relocated}
use Rattle.loaded_modules.proofs.parts.LoadedImage.read_window.Given as goal

abbrev pub invariant-loop-number : goal.invariant-loop-number
invariant-loop-number l =
    IsWindow (relocated l.self.modules.now l.self.image.now l.self.instance.now
    (lent_part l.part) l.number) l.from l.window
    × (length l.window ≡ length l.fn.window)
