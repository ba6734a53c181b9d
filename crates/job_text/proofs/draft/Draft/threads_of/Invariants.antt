use Rattle.std.proofs.Common.{◌≡◌, ◌++◌, drop, length}
use Rattle.std.specs.List.{All, filter_map, list_any}
use Rattle.std.specs.Option.{is_none}
use Rattle.job_text.specs.Threads.{IsThread}
use Rattle.job_text.specs.LineFaults.{thread_named}
use Rattle.job_text.specs.Numbers.{number}
use Rattle.job_text.proofs.draft.Draft.threads_of.Given as goal

-- the threads so far, and then those that are left; the words so far name threads
abbrev pub invariant-loop-index : goal.invariant-loop-index
invariant-loop-index l = record {
  threads : l.order.items ++ filter_map number (drop l.index l.words) ≡ filter_map number (drop 1 l.words);
  named : list_any (λ word. is_none (thread_named l.self word)) (drop l.index l.words)
      ≡ list_any (λ word. is_none (thread_named l.self word)) (drop 1 l.words);
  within : All (IsThread (length l.self.lines)) l.order.items;
}
