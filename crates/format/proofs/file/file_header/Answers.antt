-- `format::file::file_header` meets its contract. The first rule of `file_rules` that fires, one return for each. Assumes nothing.
use mathlib.Core.Path.{sym}
use native.Mathlib.Omega.{arith}
use Rattle.word.proofs.Tests.{tests}
use Rattle.format.specs.FileHeader.{file_rules}
use Rattle.format.proofs.FileHeaders.{file_refused, good_file}
use Rattle.format.proofs.file.file_header.Goals as goal

pub returns-then-bytes-lt4 : goal.returns-then-bytes-lt4
unfolding file_rules
returns-then-bytes-lt4 c = sym (file_refused 0 _ 5 (omega (arith, tests)))

pub returns-then-read_be-ne-QOA_MAGIC : goal.returns-then-read_be-ne-QOA_MAGIC
unfolding file_rules
returns-then-read_be-ne-QOA_MAGIC c = sym (file_refused 1 _ 1 (omega (arith, tests)))

pub returns-then-bytes-lt-QOA_HEADER_SIZE : goal.returns-then-bytes-lt-QOA_HEADER_SIZE
unfolding file_rules
returns-then-bytes-lt-QOA_HEADER_SIZE c = sym (file_refused 2 _ 5 (omega (arith, tests)))

pub returns : goal.returns
returns c = sym (good_file _ _ (record { there = omega arith; is_qoa = omega arith; same = sym c.read_be-2.ensures }))
