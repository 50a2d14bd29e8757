-- Families of samples, as a text has them: a line with the help, a line with the type, and a line for each sample.
use Rattle.std.specs.Prelude.{ℕ, ◌/◌, ◌%◌, List, ◌++◌, codes, decimal, flat_map}
use Rattle.rme_metrics.specs.Labels.{escaped_label}
use Rattle.rme_metrics.specs.Families.{family_help, family_kind, family_name, metric_kind_word}
use Rattle.rme_metrics.specs.declared.family.MetricFamily.{MetricFamily}
use Rattle.rme_metrics.specs.declared.label.LabelledCount.{LabelledCount}
use Rattle.rme_metrics.specs.declared.time_counter.TimeHistogram.{TimeHistogram}

-- The lines that begin a family.
abbrev pub family_head : MetricFamily → List ℕ
family_head family =
    codes "# HELP " ++ (family_name family ++ (codes " " ++ (family_help family ++ (codes "\n# TYPE "
    ++ (family_name family ++ (codes " " ++ (metric_kind_word (family_kind family) ++ codes "\n")))))))

-- A family of one sample.
abbrev pub plain_family : MetricFamily → ℕ → List ℕ
plain_family family value =
    family_head family ++ (family_name family ++ (codes " " ++ (decimal value ++ codes "\n")))

-- The digits of a part of a second, which is given in microseconds.
abbrev pub fraction_text : ℕ → List ℕ
fraction_text micros =
    decimal (micros / 100000) ++ (decimal (micros / 10000 % 10) ++ (decimal (micros / 1000 % 10)
    ++ (decimal (micros / 100 % 10) ++ (decimal (micros / 10 % 10) ++ decimal (micros % 10)))))

-- A time in seconds, which is given in microseconds.
abbrev pub seconds_text : ℕ → List ℕ
seconds_text micros = decimal (micros / 1000000) ++ (codes "." ++ fraction_text (micros % 1000000))

-- A family of one sample, a time in microseconds.
abbrev pub seconds_family : MetricFamily → ℕ → List ℕ
seconds_family family micros =
    family_head family ++ (family_name family ++ (codes " " ++ (seconds_text micros ++ codes "\n")))

-- A line of a sample with a label: the name of the sample, the name of the label, and its value.
abbrev pub labelled_line : List ℕ → List ℕ → LabelledCount → List ℕ
labelled_line name label counted =
    name ++ (codes "{" ++ (label ++ (codes "=\""
    ++ (escaped_label counted.label.now ++ (codes "\"} " ++ (decimal counted.count ++ codes "\n"))))))

-- Such lines, one for each value of the label.
abbrev pub labelled_lines : List ℕ → List ℕ → List LabelledCount → List ℕ
labelled_lines name label counts = flat_map (labelled_line name label) counts

-- A family with a sample for each value of a label.
abbrev pub labelled_family : MetricFamily → List ℕ → List LabelledCount → List ℕ
labelled_family family label counts = family_head family ++ labelled_lines (family_name family) label counts

-- The last lines of a histogram: the sum and the number of its times.
abbrev pub histogram_end : MetricFamily → TimeHistogram → List ℕ
histogram_end family times =
    family_name family ++ (codes "_sum " ++ (seconds_text times.micros ++ (codes "\n"
    ++ (family_name family ++ (codes "_count " ++ (decimal times.count ++ codes "\n"))))))

-- A histogram of times.
abbrev pub histogram_family : MetricFamily → TimeHistogram → List ℕ
histogram_family family times =
    family_head family ++ (labelled_lines (family_name family ++ codes "_bucket") (codes "le") times.buckets.items
    ++ histogram_end family times)
