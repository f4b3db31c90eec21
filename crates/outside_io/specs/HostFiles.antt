-- The files of the machine, as a clause reads them. What they hold isn't known.
use Rattle.std.specs.Prelude.{List, [], Option, None, is_some}
use Rattle.outside_io.specs.RawFiles.{FilesCall, FilesView, Named}
use Rattle.outside_io.specs.declared.files_calls.FilesCalls.{FilesCalls}

-- every call with its answer, the oldest first
abbrev pub files_calls : FilesCalls → List FilesCall
files_calls calls = calls.calls.items

-- what files show of which one is open or not
abbrev pub host_files_view : {F : Type 0} → Option F → FilesCalls → FilesView
host_files_view file calls = record {
  is_open = is_some file;
  asked = files_calls calls;
  held = λ _. None;
  left = [];
  writes_to = Named [];
}
