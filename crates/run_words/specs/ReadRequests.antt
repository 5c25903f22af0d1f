-- What is read off the words.
use Rattle.std.specs.Prelude.{option_map}
use Rattle.run_words.specs.declared.words.Request.{Request as ReadRequest}
use Rattle.run_words.specs.declared.words.Request.TheVariants as requests
use Rattle.run_words.specs.FormParts.{form, names, source_files}
use Rattle.run_words.specs.Requests.{Request, Play, Check, Picture, Compile, Source, Stress, Decode, Replay}

-- what the code reads off the words
abbrev pub request : ReadRequest → Request
request (requests.Play f) = Play (form f.on_use f.heap f.topology.now f.script.now (option_map (λ name. name.now) f.trace))
request (requests.Check name) = Check name.now
request (requests.Picture name) = Picture name.now
request (requests.Compile n) = Compile (names n.source.now n.out.now)
request (requests.Source f) = Source (source_files f.topology.now f.out.now)
request (requests.Stress seed) = Stress seed
request (requests.Decode name) = Decode name.now
request (requests.Replay name) = Replay name.now
