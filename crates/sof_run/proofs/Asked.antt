-- What is to do by the words of `check`, `graph`, `compile`, `source` and `decode`.
use Rattle.std.proofs.Common.{◌≡◌, ℕ, List, Some, ap}
use Rattle.run_words.specs.ToolForms.{check_of, graph_file_of, CompileNames, compile_of, SourceFiles, source_files_of}
use Rattle.run_tools.specs.Checking.{count_lines}
use Rattle.run_tools.specs.Picturing.{picture_lines}
use Rattle.run_tools.specs.CheckTodo.{check}
use Rattle.sof_run.specs.Forms.{todo_for, todo_of}
use Rattle.run_words.proofs.Requests.{check_asked, graph_asked, compile_asked, decode_asked, source_asked}
use Rattle.run_tools.specs.CompileTodo.{compile}
use Rattle.run_words.specs.TraceForms.{decode_of}
use Rattle.run_tools.specs.DecodeTodo.{decode}
use Rattle.run_tools.specs.SourceTodo.{make_source}

pub checks_alone : (room sent : ℕ) (words : List (List ℕ)) (name : List ℕ) → check_of words ≡ Some name → todo_of room sent words ≡ check count_lines name
checks_alone room sent words name is = ap (todo_for room sent) (check_asked room words name is)

pub pictures_alone : (room sent : ℕ) (words : List (List ℕ)) (name : List ℕ) → graph_file_of words ≡ Some name → todo_of room sent words ≡ check picture_lines name
pictures_alone room sent words name is = ap (todo_for room sent) (graph_asked room words name is)

pub compiles_alone : (room sent : ℕ) (words : List (List ℕ)) (names : CompileNames) → compile_of words ≡ Some names → todo_of room sent words ≡ compile names
compiles_alone room sent words names is = ap (todo_for room sent) (compile_asked room words names is)

pub decodes_alone : (room sent : ℕ) (words : List (List ℕ)) (name : List ℕ) → decode_of words ≡ Some name → todo_of room sent words ≡ decode name
decodes_alone room sent words name is = ap (todo_for room sent) (decode_asked room words name is)

pub sources_alone : (room sent : ℕ) (words : List (List ℕ)) (files : SourceFiles) → source_files_of words ≡ Some files → todo_of room sent words ≡ make_source files
sources_alone room sent words files is = ap (todo_for room sent) (source_asked room words files is)
