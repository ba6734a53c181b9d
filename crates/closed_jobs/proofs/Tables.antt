-- The tables of a program, of a module that starts with it and of a late one, computed.
use Rattle.std.proofs.Common.{refl}
use Rattle.thread_blocks.specs.Instances.{instances_in}
use Rattle.closed_jobs.specs.Laws.{TablesHoldTheirWords}
use Rattle.closed_jobs.specs.Tables.{HasTable, app, app_object, app_words, lib, lib_object, lib_words, of_app, of_lib}
use Rattle.closed_jobs.specs.Tables.{of_plug, plug, plug_object, plug_words}
use Rattle.closed_jobs.specs.Worlds.{file}
use Rattle.closed_jobs.proofs.Closed.{loads}
use Rattle.link_core.proofs.Computed.{linked}

app_table : HasTable app of_app 0x1_0400_2000 app_words
unfolding loads linked instances_in app lib plug app_object lib_object plug_object file
app_table = record { live = refl; begins = refl; meant = refl; there = refl }

lib_table : HasTable lib of_lib 0x1_0800_2000 lib_words
unfolding loads linked instances_in app lib plug app_object lib_object plug_object file
lib_table = record { live = refl; begins = refl; meant = refl; there = refl }

plug_table : HasTable plug of_plug 0x1_1000_2000 plug_words
unfolding loads linked instances_in app lib plug app_object lib_object plug_object file
plug_table = record { live = refl; begins = refl; meant = refl; there = refl }

pub hold_their_words : TablesHoldTheirWords
hold_their_words = (app_table, lib_table, plug_table)
