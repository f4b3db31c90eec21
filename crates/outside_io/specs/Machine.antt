-- What a store and a sink over the machine show, and what they go through.
use Rattle.std.specs.Prelude.{ℕ, List}
use Rattle.outside_io.specs.RawFiles.{FilesView, named_files}
use Rattle.outside_io.specs.RawOut.{OutCall}
use Rattle.outside_io.specs.StoreView.{StoreView}
use Rattle.outside_io.specs.Noted.{asked_of}
use Rattle.outside_io.specs.declared.calls.Calls.{Calls}
use Rattle.outside_io.specs.declared.raw_out.OutCalls.{OutCalls}
use Rattle.outside_io.specs.declared.std_sink.StdSink.{StdSink}

-- what a store over the machine's own calls shows, with one count of faults for every name and both kinds of call
abbrev pub file_view : FilesView → (faults taken : ℕ) → Calls → StoreView
file_view files faults taken calls = record {
  files = named_files files;
  read_faults = λ _. faults;
  write_faults = λ _. faults;
  taken = taken;
  asked = asked_of calls;
}

-- the calls of standard output, with their answers
abbrev pub out_calls : OutCalls → List OutCall
out_calls calls = calls.calls.items

-- the machine's own calls below a sink
abbrev pub std_out : {O : Type 0} → StdSink O → O
std_out sink = sink.out
