mod Examples
mod StoreExamples
mod FetchExamples
